-- The room that a reader of instances keeps may go to another thread.
use denote.Struct.Field.{bool-field, usize-field}
use denote.Param.Send.{IsSend, plain_send, sendable}
use denote.Param.SendFields.{as_row_send, declared_send}
use Rattle.std.proofs.Crossing as std
use Rattle.std.specs.contracts.alloc.Global as heap
use Rattle.std.specs.contracts.impls.GlobalAllocator.TheImpl.{ghosts}
use Rattle.std_alloc.specs.contracts.boxed.Box as box
use Rattle.core.specs.contracts.option.Option as option
use Rattle.json.specs.contracts.scratch.Scratch as scratch
use Rattle.jskw_value.specs.contracts.decimal_tree.DecimalTree as tree
use Rattle.jskw_value.proofs.decimal_tree.DecimalTree.TheLaws.TheKnot as tree_knot
use Rattle.jskw_value.proofs.members.Member.TheSendSync as member'
use Rattle.jskw_text.specs.contracts.spare.Spare as spare
use Rattle.jskw_text.specs.contracts.reader.TreeReader as reader
use Rattle.jskw_c.proofs.CrossingValues.{row_send}

tree_send : IsSend tree.the_row
tree_send = search (std.crosses, tree_knot.crosses, sendable) depth 60 fits 20000

spare_send : IsSend spare.the_row
spare_send = search (std.crosses, tree_send, member'.the_send, sendable) depth 60 fits 20000

scratch_send : IsSend (scratch.the_row heap.the_row ghosts)
scratch_send = search (std.crosses, sendable) depth 60 fits 20000

kept_send : IsSend (option.the_row (box.the_row (scratch.the_row heap.the_row ghosts) heap.the_row ghosts))
kept_send = search (std.crosses, scratch_send, sendable) depth 60 fits 20000

pub reader_send : IsSend reader.the_row
reader_send = declared_send reader.the_type (
  row_send std.send,
  (
    row_send spare_send,
    (
      row_send kept_send,
      (as_row_send usize-field (plain_send _ _ _ _ _), (as_row_send bool-field (plain_send _ _ _ _ _), tt)),
    ),
  ),
)
