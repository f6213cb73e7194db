-- The items that a walk passes over, and what it counts for them.
use Rattle.std.specs.Prelude.{◌≡◌, ◌≤◌, ◌+◌, ◌-◌, ◌^◌, ℕ, List, Bool, true, drop, take, length, min}
use Rattle.std.specs.List.{list_all}
use Rattle.jskw_value.specs.Tree.{Tree, items}
use Rattle.jskw_report.specs.Observe.{CountsUpTo}

-- the items from the index `start` on and before the index `end`
abbrev pub items_between : ℕ → ℕ → Tree → List Tree
items_between start end t = take (end - start) (drop start (items t))

-- items from `start` on and before `end` are there, and all of them pass the test
pub record PassesOver (test : Tree → Bool) (t : Tree) (start end : ℕ) : Type 0 where
  pub from : start ≤ end
  pub in_range : end - start ≤ length (drop start (items t))
  pub valid : list_all test (items_between start end t) ≡ true

-- the count went from `old` to `new`: up by no less than the first bound, unless it reached its end, and by no more
-- than the second
pub record CountsBetween (old new least most : ℕ) : Type 0 where
  pub applied : min (old + least) (2 ^ 64 - 1) ≤ new
  pub counted : CountsUpTo old new most
