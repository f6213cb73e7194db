-- The validators of keywords without subschemas may cross threads, and be read in several at once, if the names that
-- they look up may.
use denote.RattleType.{RattleType}
use denote.Struct.Field.{u64-field}
use denote.Param.Send.{IsSend, IsSync, plain_send, plain_sync, view_send, view_sync}
use denote.Param.SendFields.{as_row_send, as_row_sync, declared_send, declared_sync, variants_send, variants_sync}
use Rattle.std.proofs.Crossing as std
use Rattle.std.proofs.marker.PhantomData.TheSendSync as phantom
use Rattle.jskw_value.specs.declared.json.Rooted as rooted
use Rattle.jskw_value.specs.declared.json.Object as object
use Rattle.jskw_value.specs.declared.json.JsonNumber as number
use Rattle.jskw_value.specs.declared.nullability.Nullability as nullability
use Rattle.jskw_value.specs.contracts.nullability.Nullable as nullable
use Rattle.jskw_value.specs.contracts.nullability.NotNullable as not_nullable
use Rattle.jskw_value.specs.contracts.nullability.NullableNullability.TheImpl as nullable'
use Rattle.jskw_value.specs.contracts.nullability.NotNullableNullability.TheImpl as not_nullable'
use Rattle.jskw_value.proofs.types.JsonTypeSet.TheSendSync as types
use Rattle.jskw_report.proofs.paths.keyword_location.KeywordLocation.TheSendSync as location
use Rattle.jskw_leaf.specs.declared.enum_.table.OptionTable as table
use Rattle.jskw_leaf.specs.contracts.const_.ConstValueValidator as const
use Rattle.jskw_leaf.specs.contracts.enum_.EnumValidator as any
use Rattle.jskw_leaf.specs.contracts.enum_.SingleValueEnumValidator as single
use Rattle.jskw_leaf.specs.contracts.enum_.values.FingerprintedValue as printed
use Rattle.jskw_leaf.specs.contracts.enum_.values.SortedValues as values
use Rattle.jskw_leaf.specs.contracts.enum_.values.SortedValuesOptionTable.TheImpl as values'
use Rattle.jskw_leaf.specs.contracts.enum_.strings.FewStrings as few''
use Rattle.jskw_leaf.specs.contracts.enum_.strings.FewStringsOptionTable.TheImpl as few'
use Rattle.jskw_leaf.specs.contracts.enum_.strings.SortedStrings as strings''
use Rattle.jskw_leaf.specs.contracts.enum_.strings.SortedStringsOptionTable.TheImpl as strings'
use Rattle.jskw_leaf.specs.contracts.enum_.integers.SortedIntegers as integers''
use Rattle.jskw_leaf.specs.contracts.enum_.integers.SortedIntegersOptionTable.TheImpl as integers'
use Rattle.jskw_leaf.specs.contracts.enum_.table.Listed as listed
use Rattle.jskw_leaf.specs.contracts.enum_.table.Listed.TheInside as listed_inside
use Rattle.jskw_leaf.specs.contracts.enum_.table.TableEnumValidator as among
use Rattle.jskw_leaf.specs.contracts.leaf.LeafValidator as leaf
use Rattle.jskw_leaf.proofs.boolean.FalseValidator.TheSendSync as false_schema
use Rattle.jskw_leaf.proofs.in_place.no_more.AdditionalItemsBooleanValidator.TheSendSync as additional
use Rattle.jskw_leaf.proofs.type_.TypeValidator.TheSendSync as type_keyword
use Rattle.jskw_leaf.proofs.enum_.integers.SortedIntegers.TheSendSync as integers
use Rattle.jskw_leaf.proofs.enum_.strings.FewStrings.TheSendSync as few
use Rattle.jskw_leaf.proofs.enum_.strings.SortedStrings.TheSendSync as strings
use Rattle.jskw_leaf.proofs.unique_items.UniqueItemsValidator.TheSendSync as unique
use Rattle.jskw_leaf.specs.contracts.required.names.NameList as names'
use Rattle.jskw_leaf.specs.contracts.required.names.FewNames as few_names'
use Rattle.jskw_leaf.proofs.required.RequiredNames.TheSendSync as required
use Rattle.jskw_leaf.proofs.required.names.FewNames.TheSendSync as few_names
use Rattle.jskw_leaf.proofs.required.names.NameList.TheSendSync as names
use Rattle.jskw_c.proofs.CrossingValues.{value_send, value_sync, row_send, row_sync, numbers_send, numbers_sync}

const_send : IsSend const.the_row
const_send = declared_send const.the_type (row_send value_send, (row_send location.the_send, tt))

const_sync : IsSync const.the_row
const_sync = declared_sync const.the_type (row_sync value_sync, (row_sync location.the_sync, tt))

any_send : IsSend any.the_row
any_send = declared_send any.the_type (row_send value_send, (types.the_send, (row_send location.the_send, tt)))

any_sync : IsSync any.the_row
any_sync = declared_sync any.the_type (row_sync value_sync, (types.the_sync, (row_sync location.the_sync, tt)))

single_send : IsSend single.the_row
single_send = declared_send single.the_type
    (row_send value_send, (row_send value_send, (row_send location.the_send, tt)))

single_sync : IsSync single.the_row
single_sync = declared_sync single.the_type
    (row_sync value_sync, (row_sync value_sync, (row_sync location.the_sync, tt)))

printed_send : IsSend printed.the_row
printed_send = declared_send printed.the_type
    (as_row_send u64-field (plain_send _ _ _ _ _), (row_send value_send, tt))

printed_sync : IsSync printed.the_row
printed_sync = declared_sync printed.the_type
    (as_row_sync u64-field (plain_sync _ _ _ _ _), (row_sync value_sync, tt))

values_send : IsSend values.the_row
values_send = declared_send values.the_type
    (types.the_send, (as_row_send u64-field (plain_send _ _ _ _ _), (std.Vec-send printed.the_row printed_send, tt)))

values_sync : IsSync values.the_row
values_sync = declared_sync values.the_type
    (types.the_sync, (as_row_sync u64-field (plain_sync _ _ _ _ _), (std.Vec-sync printed.the_row printed_sync, tt)))

module _ (T N : RattleType) (g : table.Ghosts T.Denot) (h : nullability.Ghosts N.Denot) where
  listed_send : IsSend T → IsSend (listed.the_row T N g h)
  listed_send s = view_send _ _ _ _ _ (declared_send (listed_inside.the_type T N g h)
      (row_send value_send, (row_send s, (phantom.the_send N, tt))))

  listed_sync : IsSync T → IsSync (listed.the_row T N g h)
  listed_sync s = view_sync _ _ _ _ _ (declared_sync (listed_inside.the_type T N g h)
      (row_sync value_sync, (row_sync s, (phantom.the_sync N, tt))))

  among_send : IsSend T → IsSend (among.the_row T N g h)
  among_send s = declared_send (among.the_type T N g h) (row_send (listed_send s), (row_send location.the_send, tt))

  among_sync : IsSync T → IsSync (among.the_row T N g h)
  among_sync s = declared_sync (among.the_type T N g h) (row_sync (listed_sync s), (row_sync location.the_sync, tt))

module _
    (T T' T'' T'3 : RattleType) (g : rooted.Ghosts T'.Denot) (g' : object.Ghosts T'.Denot T'3.Denot)
    (g'' : number.Ghosts T''.Denot)
  where
    -- the names of `required` in a list, and few of them
    abbrev Names : RattleType
    Names = names'.the_row T T' T'' T'3 g g' g''

    abbrev FewNames : RattleType
    FewNames = few_names'.the_row T T' T'' T'3 g g' g''

    pub leaf_send : IsSend T'3 → IsSend (leaf.the_row T T' T'' T'3 g g' g'')
    leaf_send s = variants_send (leaf.enum T T' T'' T'3 g g' g'') (search (
      false_schema.the_send,
      numbers_send,
      type_keyword.the_send,
      const_send,
      any_send,
      single_send,
      among_send values.the_row not_nullable.the_row values'.ghosts not_nullable'.ghosts values_send,
      among_send few''.the_row not_nullable.the_row few'.ghosts not_nullable'.ghosts few.the_send,
      among_send few''.the_row nullable.the_row few'.ghosts nullable'.ghosts few.the_send,
      among_send strings''.the_row not_nullable.the_row strings'.ghosts not_nullable'.ghosts strings.the_send,
      among_send strings''.the_row nullable.the_row strings'.ghosts nullable'.ghosts strings.the_send,
      among_send integers''.the_row not_nullable.the_row integers'.ghosts not_nullable'.ghosts integers.the_send,
      among_send integers''.the_row nullable.the_row integers'.ghosts nullable'.ghosts integers.the_send,
      unique.the_send,
      required.the_send T Names T' T'' T'3 (names.the_send T T' T'' T'3 g g' g'' s),
      required.the_send T FewNames T' T'' T'3 (few_names.the_send T T' T'' T'3 g g' g'' s),
      additional.the_send,
    ))

    pub leaf_sync : IsSync T'3 → IsSync (leaf.the_row T T' T'' T'3 g g' g'')
    leaf_sync s = variants_sync (leaf.enum T T' T'' T'3 g g' g'') (search (
      false_schema.the_sync,
      numbers_sync,
      type_keyword.the_sync,
      const_sync,
      any_sync,
      single_sync,
      among_sync values.the_row not_nullable.the_row values'.ghosts not_nullable'.ghosts values_sync,
      among_sync few''.the_row not_nullable.the_row few'.ghosts not_nullable'.ghosts few.the_sync,
      among_sync few''.the_row nullable.the_row few'.ghosts nullable'.ghosts few.the_sync,
      among_sync strings''.the_row not_nullable.the_row strings'.ghosts not_nullable'.ghosts strings.the_sync,
      among_sync strings''.the_row nullable.the_row strings'.ghosts nullable'.ghosts strings.the_sync,
      among_sync integers''.the_row not_nullable.the_row integers'.ghosts not_nullable'.ghosts integers.the_sync,
      among_sync integers''.the_row nullable.the_row integers'.ghosts nullable'.ghosts integers.the_sync,
      unique.the_sync,
      required.the_sync T Names T' T'' T'3 (names.the_sync T T' T'' T'3 g g' g'' s),
      required.the_sync T FewNames T' T'' T'3 (few_names.the_sync T T' T'' T'3 g g' g'' s),
      additional.the_sync,
    ))
