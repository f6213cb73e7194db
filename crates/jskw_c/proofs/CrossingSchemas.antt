-- A compiled schema over exact decimals may cross threads, and be read in several at once.
use denote.RattleType.{RattleType}
use denote.Struct.Field.{bool-field, usize-field}
use denote.Param.Send.{IsSend, IsSync, plain_send, plain_sync, sendable, view_send, view_sync}
use denote.Param.SendFields.{as_row_send, as_row_sync, declared_send, declared_sync}
use Rattle.std.proofs.Crossing as std
use Rattle.std.specs.contracts.alloc.Global as heap
use Rattle.std.specs.contracts.string.String as string
use Rattle.std.specs.contracts.impls.GlobalAllocator.TheImpl.{ghosts}
use Rattle.std.proofs.string.String.TheSendSync as string'
use Rattle.std.below.std_heap.proofs.GlobalAllocator.TheSendSync.{the_frees}
use Rattle.jskw_value.specs.contracts.decimal.Decimal as decimal
use Rattle.jskw_value.specs.contracts.decimal_tree.DecimalJson as json
use Rattle.jskw_value.specs.contracts.decimal_tree.DecimalTree as tree
use Rattle.jskw_value.specs.contracts.decimal_tree.DecimalTreeRooted.TheImpl as rooted
use Rattle.jskw_value.specs.contracts.decimal_tree.DecimalTreeObject.TheImpl as object
use Rattle.jskw_value.specs.contracts.decimal.DecimalJsonNumber.TheImpl as numbered
use Rattle.jskw_report.proofs.paths.keyword_location.KeywordLocation.TheSendSync as location
use Rattle.jskw_report.proofs.paths.Location.TheSendSync as text
use Rattle.jskw_number.proofs.quick_set.QuickSet.TheSendSync as quick
use Rattle.jskw_leaf.proofs.in_place.bare.BareItems.TheSendSync as bare
use Rattle.jskw_leaf.proofs.in_place.absorbed.AbsorbedKeywords.TheSendSync as absorbed
use Rattle.jskw_array.specs.contracts.accepted.Accepted as accepted
use Rattle.jskw_array.specs.contracts.node.Subschema as node
use Rattle.jskw_array.proofs.node.Subschema.TheLaws.TheKnot as knot
use Rattle.jskw_array.specs.contracts.schema.SchemaNode as whole
use Rattle.jskw_array.specs.contracts.schema.SchemaNode.TheInside as inside
use Rattle.jskw_array.specs.contracts.matching.ItemBounds as item_bounds
use Rattle.jskw_array.proofs.matching.ItemBounds.TheSendSync as bounds
use Rattle.jskw_c.proofs.CrossingValues.{row_send, row_sync}
use Rattle.jskw_c.proofs.CrossingLeaves.{leaf_send, leaf_sync}

-- the rows of `DecimalJson`, its trees, numbers and names

abbrev S : RattleType
S = json.the_row

abbrev V : RattleType
V = tree.the_row

abbrev N : RattleType
N = decimal.the_row

abbrev K : RattleType
K = string.the_row heap.the_row ghosts

name_send : IsSend K
name_send = string'.the_send heap.the_row ghosts std.send the_frees

name_sync : IsSync K
name_sync = string'.the_sync heap.the_row ghosts std.sync

accepted_send : IsSend accepted.the_row
accepted_send = search (std.crosses, quick.the_send, sendable) depth 60 fits 20000

accepted_sync : IsSync accepted.the_row
accepted_sync = search (std.crosses, quick.the_sync, sendable) depth 60 fits 20000

abbrev subschema_row : RattleType
subschema_row = node.the_row S V N K rooted.ghosts object.ghosts numbered.ghosts

subschema_send : IsSend subschema_row
subschema_send = knot.send-Subschema S V N K rooted.ghosts object.ghosts numbered.ghosts
    (row_send location.the_send) (as_row_send bool-field (plain_send _ _ _ _ _)) accepted_send
    std.Vec-send std.Box-send
    (leaf_send S V N K rooted.ghosts object.ghosts numbered.ghosts name_send)
    (bare.the_send S V N K) absorbed.the_send (std.Box-send item_bounds.the_row bounds.the_send)
    (as_row_send usize-field (plain_send _ _ _ _ _))

subschema_sync : IsSync subschema_row
subschema_sync = knot.sync-Subschema S V N K rooted.ghosts object.ghosts numbered.ghosts
    (row_sync location.the_sync) (as_row_sync bool-field (plain_sync _ _ _ _ _)) accepted_sync
    std.Vec-sync std.Box-sync
    (leaf_sync S V N K rooted.ghosts object.ghosts numbered.ghosts name_sync)
    (bare.the_sync S V N K) absorbed.the_sync (std.Box-sync item_bounds.the_row bounds.the_sync)
    (as_row_sync usize-field (plain_sync _ _ _ _ _))

abbrev pub schema_row : RattleType
schema_row = whole.the_row S V N K rooted.ghosts object.ghosts numbered.ghosts

pub schema_send : IsSend schema_row
schema_send = view_send _ _ _ _ _ (declared_send (inside.the_type S V N K rooted.ghosts object.ghosts numbered.ghosts)
    (row_send text.the_send, (row_send subschema_send, tt)))

pub schema_sync : IsSync schema_row
schema_sync = view_sync _ _ _ _ _ (declared_sync (inside.the_type S V N K rooted.ghosts object.ghosts numbered.ghosts)
    (row_sync text.the_sync, (row_sync subschema_sync, tt)))
