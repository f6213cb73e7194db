use Rattle.std.proofs.Common.{sym, subst}
use Rattle.std.proofs.lemmas.List.Sorted.{IsPermutation-refl}
use Rattle.std.specs.List.Sorted.{IsPermutation}
use Rattle.serde_json.specs.Find.{as_str}
use Rattle.serde_json.specs.View.{items_view}
use Rattle.jskw_leaf.specs.Options.{picked}
use Rattle.jskw_leaf.proofs.Options.{are_texts}
use Rattle.jskw_leaf.proofs.enum_.strings.FewStringsOptionTable.new.Goals as goal

pub returns : goal.returns
returns c =
    let texts = picked as_str (items_view c.args.items.now) in
    are_texts _ _ c.requires (subst (IsPermutation texts) (sym c.in_ok-names_of.ensures) (IsPermutation-refl texts))
