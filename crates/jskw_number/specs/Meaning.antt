-- What each validator asserts, and where; and of any of them the keyword, and the limit that it keeps.
use Rattle.std.specs.Int.NonZero.{non_zero_u64_get}
use Rattle.std.specs.Prelude.{ℕ, ℤ, pos, Option, Some, None}
use Rattle.serde_json.specs.Data.{Data}
use Rattle.serde_json.specs.View.{view}
use Rattle.jskw_value.specs.Pointer.{Pointer}
use Rattle.jskw_report.specs.Keyword.{Keyword, Relation, Size, size, limit, multiple_of}
use Rattle.jskw_report.specs.Keyword as which
use Rattle.jskw_report.specs.Meaning.{LocatedAssertion, as_keyword}
use Rattle.jskw_number.specs.declared.sizes.SizeLimit.{SizeLimit}
use Rattle.jskw_number.specs.declared.multiple_of.MultipleOfIntegerValidator.{MultipleOfIntegerValidator}
use Rattle.jskw_number.specs.declared.number.NumberValidator.{NumberValidator}
use Rattle.jskw_number.specs.declared.number.NumberValidator.TheVariants.{MinItems, MaxItems, MinProperties}
use Rattle.jskw_number.specs.declared.number.NumberValidator.TheVariants.{MaxProperties, MinimumU64, MinimumI64}
use Rattle.jskw_number.specs.declared.number.NumberValidator.TheVariants.{MaximumU64, MaximumI64, ExclusiveMinimumU64}
use Rattle.jskw_number.specs.declared.number.NumberValidator.TheVariants.{ExclusiveMinimumI64, ExclusiveMaximumU64}
use Rattle.jskw_number.specs.declared.number.NumberValidator.TheVariants.{ExclusiveMaximumI64, MultipleOfInteger}

-- ---- sizes

-- a bound on a size; A and L are the parameters of its type
abbrev pub sized : {A L : ℕ} → Size → SizeLimit A L → LocatedAssertion
sized which v = record { location = v.location; assertion = size which v.limit }

abbrev pub min_items : {A L : ℕ} → SizeLimit A L → LocatedAssertion
min_items v = sized which.MinItems v

abbrev pub max_items : {A L : ℕ} → SizeLimit A L → LocatedAssertion
max_items v = sized which.MaxItems v

-- ---- limits

-- to the number z by the relation r, failing at the location
abbrev pub limit_at : Relation → ℤ → Pointer → LocatedAssertion
limit_at r z q = record { location = q; assertion = limit r z }

-- ---- divisors

abbrev pub multiple_of_integer : MultipleOfIntegerValidator → LocatedAssertion
multiple_of_integer v = record { location = v.location; assertion = multiple_of (non_zero_u64_get v.multiple_of) }

-- ---- any of them

-- what it asserts, and where
abbrev pub number_assertion : NumberValidator → LocatedAssertion
number_assertion (MinItems v) = sized which.MinItems v
number_assertion (MaxItems v) = sized which.MaxItems v
number_assertion (MinProperties v) = sized which.MinProperties v
number_assertion (MaxProperties v) = sized which.MaxProperties v
number_assertion (MinimumU64 v) = limit_at which.Minimum (pos v.limit) v.location
number_assertion (MinimumI64 v) = limit_at which.Minimum v.limit v.location
number_assertion (MaximumU64 v) = limit_at which.Maximum (pos v.limit) v.location
number_assertion (MaximumI64 v) = limit_at which.Maximum v.limit v.location
number_assertion (ExclusiveMinimumU64 v) = limit_at which.ExclusiveMinimum (pos v.limit) v.location
number_assertion (ExclusiveMinimumI64 v) = limit_at which.ExclusiveMinimum v.limit v.location
number_assertion (ExclusiveMaximumU64 v) = limit_at which.ExclusiveMaximum (pos v.limit) v.location
number_assertion (ExclusiveMaximumI64 v) = limit_at which.ExclusiveMaximum v.limit v.location
number_assertion (MultipleOfInteger v) = multiple_of_integer v

-- the keyword that it stands for
abbrev pub number_keyword : NumberValidator → Keyword
number_keyword v = as_keyword (number_assertion v)

-- the limit as the schema has it; only a limit keeps one
abbrev pub limit_of : NumberValidator → Option Data
limit_of (MinimumU64 v) = Some (view v.limit_value)
limit_of (MinimumI64 v) = Some (view v.limit_value)
limit_of (MaximumU64 v) = Some (view v.limit_value)
limit_of (MaximumI64 v) = Some (view v.limit_value)
limit_of (ExclusiveMinimumU64 v) = Some (view v.limit_value)
limit_of (ExclusiveMinimumI64 v) = Some (view v.limit_value)
limit_of (ExclusiveMaximumU64 v) = Some (view v.limit_value)
limit_of (ExclusiveMaximumI64 v) = Some (view v.limit_value)
limit_of _ = None
