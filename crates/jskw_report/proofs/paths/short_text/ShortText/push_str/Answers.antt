use Rattle.std.proofs.Common.{◌≡◌, ◌+◌, ◌-◌, ◌++◌, length, take, arith}
use Rattle.std.proofs.lemmas.Grind.{common_steps}
use Rattle.std.proofs.lemmas.Str.{IsUtf8-had, IsUtf8-append}
use borrow.Rule.Slice.PartMut.{put_mid}
use Rattle.jskw_report.proofs.paths.short_text.ShortText.push_str.Goals as goal

pub invariant_of-self : goal.invariant_of-self
invariant_of-self c =
    let t = c.self.inside in
    let part = c.args.part.now in
    let front : take (t.len + length part)
    (put_mid t.len (t.len + length part - t.len) t.bytes c.copy_from_slice.new.self) ≡ take t.len t.bytes ++ part =
    grind (arith, common_steps) in (
      omega (arith, c.if-part-start.false, c.self.invariant.0),
      grind (arith, common_steps),
      ∣ rw front (IsUtf8-append _ _ (IsUtf8-had _ c.self.invariant.2) c.utf8.part) ∣₁,
    )
