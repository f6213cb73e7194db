use Rattle.std.proofs.Common.{◌≡◌, ◌-◌, length, take, drop, ap, ◌∙◌}
use Rattle.std.proofs.lemmas.List.{take_rest}
use Rattle.std.specs.Int.{w64, from_le_bytes}
use Rattle.jskw_value.specs.Fingerprint.{word_at}
use Rattle.jskw_value.specs.PropertyName.{padded}
use Rattle.jskw_value.proofs.fingerprint.word_at.Goals as goal

pub returns : goal.returns
unfolding word_at
returns c =
    let s = c.args.bytes.now in
    let i = c.args.start in
    let word : c.number_of.result ≡ from_le_bytes w64 (padded (take 8 (take (length s - i) (drop i s)))) =
    c.number_of.ensures in
    word ∙ ap (λ xs. from_le_bytes w64 (padded (take 8 xs))) (take_rest s i)
