-- What is read of a keyword is what the keyword asserts.
use Rattle.std.specs.Prelude.{◌≡◌, Bool, true, false, if◌then◌else◌, Some, None, Ok}
use Rattle.std.proofs.Common.{ap}
use Rattle.serde_json.specs.Data.{Members}
use Rattle.jskw_value.specs.Pointer.{Pointer}
use Rattle.jskw_report.specs.Keyword.{Keyword}
use Rattle.jskw_report.specs.Read.{Asserts, ValueReadings, asserted, read_keyword}
use Rattle.jskw_report.specs.Setting.{Setting, is_active}
use Rattle.jskw_report.specs.declared.keyword.KeywordName.{KeywordName}

-- a keyword that is read is active, and is asserted of its value
pub asserted_if_read : (w : KeywordName) (s : Setting) (p : Pointer) (ms : Members) (part : ValueReadings) (k : Keyword)
    → read_keyword w s p ms (Some part) ≡ Some (Ok k) → asserted w s p ms part ≡ Some (Ok k)
unfolding read_keyword
asserted_if_read w s p ms part k = go (is_active s w)
  where
    go : (b : Bool) → (if b then asserted w s p ms part else None) ≡ Some (Ok k) → asserted w s p ms part ≡ Some (Ok k)
    go true e = e
    go false e = absurd (cc)

-- no more than one keyword is asserted
pub same_keyword : (k l : Keyword) → ◌≡◌ {A = Asserts} (Some (Ok k)) (Some (Ok l)) → k ≡ l
same_keyword k l e = ap keyword_in e
  where
    keyword_in : Asserts → Keyword
    keyword_in (Some (Ok m)) = m
    keyword_in _ = k
