-- A handle owns an owner of a schema in a block of the heap, so it may go to another thread.
use mir.Raw.{raw}
use base.Shift.{Keyless}
use denote.Memory.{lone}
use denote.RawPtr.{Ptr}
use denote.Struct.Struct.{exits_of}
use denote.Struct.Owning.{shape, fields, to}
use denote.Param.Send.{IsSend, AllSend, owning_send, struct_send, view_send, sendable}
use denote.Param.SendFields.{declared_send}
use Rattle.std.specs.Prelude.{Option, None, Some}
use Rattle.std.proofs.Crossing as std
use Rattle.std_alloc.proofs.SendSync.{quiet, lies}
use Rattle.jskw_c.specs.Slot.{slot_owns}
use Rattle.jskw_c.specs.contracts.compiled.CompiledSchema as compiled
use Rattle.jskw_c.specs.contracts.compiled.CompiledSchema.TheInside as inside
use Rattle.jskw_c.specs.contracts.handle.SchemaHandle.{the_row, the_type}
use Rattle.jskw_text.specs.contracts.wanted.Level as level
use Rattle.jskw_text.proofs.wanted.Level.TheSendSync as level'
use Rattle.jskw_c.proofs.CrossingReaders.{reader_send}
use Rattle.jskw_c.proofs.CrossingValues.{row_send}
use Rattle.jskw_c.proofs.CrossingSchemas.{schema_row, schema_send, schema_sync}

owner_send : IsSend compiled.the_row
owner_send = view_send _ _ _ _ _ (declared_send inside.the_type (
  std.Arc-send schema_row schema_send schema_sync,
  (
    std.Arc-send _ (std.Vec-send level.the_row level'.the_send) (std.Vec-sync level.the_row level'.the_sync),
    (row_send reader_send, tt),
  ),
))

keyless : (p : Ptr) (s : Option compiled.the_row.Denot) → Keyless (slot_owns compiled.the_row p s)
keyless p None = tt
keyless p (Some x) = λ a. (lies compiled.the_row owner_send p x, std.frees.frees a (raw (lone compiled.the_row.mir)) p)

pub send : IsSend the_row
send =
    let all : AllSend (fields the_type) = (search sendable, tt) in
    owning_send the_type all (λ h. keyless h.at h.schema)
    (λ k. quiet (to the_type) (exits_of k (fields the_type)) ((struct_send (shape the_type) all).leaving k))
