-- Members with distinct names, one place at a time.
use Rattle.std.proofs.Common.{◌≡◌, ℕ, ◌<◌, List, [], length, get_or, map, is_some, string_bytes, sym, ap, ◌∙◌}
use Rattle.std.proofs.lemmas.List.{get_or-map}
use Rattle.std.proofs.lemmas.Simd.{map-map}
use Rattle.std.proofs.lemmas.Map.Made.{is_some-lookup}
use Rattle.std.specs.List.{IsDistinct}
use Rattle.std.specs.Map.{values_of}
use Rattle.std.specs.Str.{bytes_eq}
use Rattle.jskw_value.specs.declared.members.Member.{Member}
use Rattle.jskw_value.specs.Members.{entries, member_names, value_named, has_named}

module _ {V : Type 0} where
  -- a name beside its value
  abbrev entry : Member V → List ℕ × V
  entry m = (string_bytes m.name, m.value)

  -- the name or the value of the member at a place, by way of the entries
  pub part_read : {A : Type 0} (part : List ℕ × V → A) (ms : List (Member V)) (i : ℕ) (d : Member V) (x : A)
      → i < length ms
      → part (entry (get_or ms i d)) ≡ get_or (map part (entries ms)) i x
  part_read part ms i d x h =
      sym (ap (λ ps. get_or ps i x) (map-map part entry ms) ∙ get_or-map (λ m. part (entry m)) ms i d x h)

  -- the name of the member at a place
  pub name_read : (ms : List (Member V)) (i : ℕ) (d : Member V) → i < length ms
      → string_bytes (get_or ms i d).name ≡ get_or (member_names ms) i (string_bytes (get_or ms i d).name)
  name_read ms i d h = part_read (λ e. e.0) ms i d (string_bytes (get_or ms i d).name) h

  -- the value of the member at a place
  pub value_read : (ms : List (Member V)) (i : ℕ) (d : Member V) → i < length ms
      → (get_or ms i d).value ≡ get_or (values_of (entries ms)) i (get_or ms i d).value
  value_read ms i d h = part_read (λ e. e.1) ms i d (get_or ms i d).value h

  -- something is found exactly where the name is there
  pub is_some_get : (k : List ℕ) (ms : List (Member V)) → is_some (value_named k ms) ≡ has_named k ms
  is_some_get k ms = is_some-lookup (bytes_eq k) (entries ms)

-- no names are distinct
pub distinct_none : IsDistinct bytes_eq []
unfolding IsDistinct
distinct_none = tt

pub ruleset lemmas = (name_read, value_read)
