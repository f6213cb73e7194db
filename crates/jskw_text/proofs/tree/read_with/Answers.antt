use Rattle.jskw_text.proofs.Utf8.{is_text, broken_bytes}
use Rattle.jskw_text.proofs.tree.read_with.Goals as goal

pub read_text-requires : goal.read_text-requires
read_text-requires c = is_text _ _ c.in-Ok.ensures.cases.0 c.in-Ok.ensures.cases.1

pub not_utf8-requires : goal.not_utf8-requires
not_utf8-requires c =
    rw (c.valid_up_to.ensures) (broken_bytes _ _ c.in-Err.ensures.cases.0 c.in-Err.ensures.cases.1)
