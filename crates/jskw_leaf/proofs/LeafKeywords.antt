-- What holds of every keyword without subschemas.
use Rattle.std.proofs.Common.{◌≡◌, false, refl}
use Rattle.jskw_value.specs.Tree.{Tree}
use Rattle.jskw_report.specs.Applications.{keyword_needed, keyword_pairs}
use Rattle.jskw_report.specs.Keyword.{keyword_delegates}
use Rattle.jskw_leaf.specs.Meaning.{leaf_keyword}
use Rattle.jskw_leaf.specs.declared.leaf.LeafValidator.{LeafValidator}

-- of every validator v
module _ {F Node Number Key : Type 0} (v : LeafValidator F Node Number Key) where
  -- it delegates nothing
  pub leaf_delegates_nothing : keyword_delegates (leaf_keyword v) ≡ false
  leaf_delegates_nothing = refl

  -- it makes no schema and tree meet
  pub leaf_applies_nothing : (t : Tree) → keyword_pairs (leaf_keyword v) t ≡ 0
  leaf_applies_nothing t = refl

  -- nor does it need any that do
  pub leaf_needs_nothing : (t : Tree) → keyword_needed (leaf_keyword v) t ≡ 0
  leaf_needs_nothing t = refl
