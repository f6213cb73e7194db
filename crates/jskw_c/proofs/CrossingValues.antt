-- Values, and the validators of numbers, may cross threads and be read in several at once.
use denote.Builtin as builtin
use denote.RattleType.{RattleType}
use denote.Hole.{as_row}
use denote.Struct.Field.{row_field}
use denote.Param.Send.{IsSend, IsSync, plain_send, plain_sync, sendable}
use denote.Param.SendFields.{as_row_send, as_row_sync, declared_send, declared_sync, variants_send, variants_sync}
use Rattle.std.proofs.Crossing as std
use Rattle.std.proofs.MapsCrossing as maps
use Rattle.std.proofs.marker.PhantomData.TheSendSync as phantom
use Rattle.serde_json.specs.contracts.value.Value as value
use Rattle.serde_json.proofs.value.Value.TheLaws.TheKnot as value_knot
use Rattle.jskw_report.proofs.paths.keyword_location.KeywordLocation.TheSendSync as location
use Rattle.jskw_number.specs.contracts.minmax.Limit as limit
use Rattle.jskw_number.specs.contracts.number.NumberValidator as numbers
use Rattle.jskw_number.proofs.sizes.SizeLimit.TheSendSync as size
use Rattle.jskw_number.proofs.multiple_of.MultipleOfIntegerValidator.TheSendSync as multiple

pub value_send : IsSend value.the_row
value_send = search (maps.crosses, std.crosses, value_knot.crosses, sendable) depth 60 fits 20000

pub value_sync : IsSync value.the_row
value_sync = search (maps.crosses, std.crosses, value_knot.crosses, sendable) depth 60 fits 20000

-- a field whose type has a model, or is a parameter
pub row_send : {R : RattleType} → IsSend R → IsSend (as_row (row_field R))
row_send {R} s = as_row_send (row_field R) s

pub row_sync : {R : RattleType} → IsSync R → IsSync (as_row (row_field R))
row_sync {R} s = as_row_sync (row_field R) s

limit_send : (T R : RattleType) → IsSend T → IsSend (limit.the_row T R)
limit_send T R s = declared_send (limit.the_type T R)
    (row_send s, (row_send value_send, (row_send location.the_send, (phantom.the_send R, tt))))

limit_sync : (T R : RattleType) → IsSync T → IsSync (limit.the_row T R)
limit_sync T R s = declared_sync (limit.the_type T R)
    (row_sync s, (row_sync value_sync, (row_sync location.the_sync, (phantom.the_sync R, tt))))

large_send : (R : RattleType) → IsSend (limit.the_row builtin.u64 R)
large_send R = limit_send builtin.u64 R (plain_send _ _ _ _ _)

small_send : (R : RattleType) → IsSend (limit.the_row builtin.i64 R)
small_send R = limit_send builtin.i64 R (plain_send _ _ _ _ _)

large_sync : (R : RattleType) → IsSync (limit.the_row builtin.u64 R)
large_sync R = limit_sync builtin.u64 R (plain_sync _ _ _ _ _)

small_sync : (R : RattleType) → IsSync (limit.the_row builtin.i64 R)
small_sync R = limit_sync builtin.i64 R (plain_sync _ _ _ _ _)

pub numbers_send : IsSend numbers.the_row
numbers_send = variants_send numbers.enum (search (size.the_send, large_send, small_send, multiple.the_send))

pub numbers_sync : IsSync numbers.the_row
numbers_sync = variants_sync numbers.enum (search (size.the_sync, large_sync, small_sync, multiple.the_sync))
