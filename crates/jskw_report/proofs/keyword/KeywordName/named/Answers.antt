use Rattle.std.proofs.Common.{◌≡◌, ◌+◌, ◌∙◌, arith, rules, ap, sym, cond, drop, get_or, false, Some}
use Rattle.std.specs.Prelude.{find}
use Rattle.std.specs.Str.{bytes_eq}
use Rattle.std.proofs.lemmas.List.{drop_more}
use Rattle.jskw_report.specs.Setting.{keywords, name_of}
use Rattle.jskw_report.specs.declared.keyword.KeywordName.TheVariants.{TypeKeyword}
use Rattle.jskw_report.proofs.keyword.KeywordName.named.Goals as goal

pub loop-keyword-preserved : goal.loop-keyword-preserved
loop-keyword-preserved c =
    let i = c.loop-keyword.keyword-index in
    let w = get_or keywords i TypeKeyword in
    let other : bytes_eq (name_of w) c.args.name.now ≡ false =
    search (rules, c.as_str.ensures, c.eq.ensures, c.if-eq.false) in
    ap (λ b. cond b (Some w) (find (λ v. bytes_eq (name_of v) c.args.name.now) (drop (i + 1) keywords))) (sym other)
    ∙ ap (find (λ v. bytes_eq (name_of v) c.args.name.now)) (sym (drop_more keywords i TypeKeyword (omega arith)))
    ∙ c.loop-keyword.invariant
