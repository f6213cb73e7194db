use Rattle.std.proofs.Common.{◌≡◌, ◌+◌, ◌*◌, ◌≤◌, length, min, drop, sum_by, count_by}
use Rattle.jskw_array.specs.Words.{all_height, all_hold, all_needed, each_holds, each_keyword, each_needed, height}
use Rattle.jskw_array.specs.Words.{holds, items, keyword_height, keyword_holds, keyword_needed, keywords_of, list_all}
use Rattle.jskw_array.specs.Words.{needed, rest_keyword, schemas_of, sum_to_failure, validator_keyword}
use Rattle.jskw_array.proofs.+is_valid.Given as goal

abbrev pub decreases-node::Subschema::is_valid : goal.decreases-node::Subschema::is_valid
decreases-node::Subschema::is_valid g l = 10 * height l.self.now + 1

abbrev pub decreases-node::Subschema::keywords_are_valid : goal.decreases-node::Subschema::keywords_are_valid
decreases-node::Subschema::keywords_are_valid g l = 10 * height l.self.now

abbrev pub decreases-part::parts_are_valid : goal.decreases-part::parts_are_valid
decreases-part::parts_are_valid g l = 10 * all_height (keywords_of l.parts.now) + 8

abbrev pub decreases-validator::ValidatorValidate::is_valid : goal.decreases-validator::ValidatorValidate::is_valid
decreases-validator::ValidatorValidate::is_valid g l = 10 * keyword_height (validator_keyword l.self.now) + 4

abbrev pub decreases-each::EachValidate::is_valid : goal.decreases-each::EachValidate::is_valid
decreases-each::EachValidate::is_valid g l = 10 * keyword_height (each_keyword l.self.now) + 3

abbrev pub decreases-rest::RestValidate::is_valid : goal.decreases-rest::RestValidate::is_valid
decreases-rest::RestValidate::is_valid g l = 10 * keyword_height (rest_keyword l.self.now) + 3

abbrev pub decreases-matching::MatchingValidate::is_valid : goal.decreases-matching::MatchingValidate::is_valid
decreases-matching::MatchingValidate::is_valid g l = 10 * height l.self.now.node + 3

abbrev pub decreases-matching::Matching::failing_location : goal.decreases-matching::Matching::failing_location
decreases-matching::Matching::failing_location g l = 10 * height l.self.now.node + 2

abbrev pub invariant-each::EachValidate::is_valid-loop-index : goal.invariant-each::EachValidate::is_valid-loop-index
invariant-each::EachValidate::is_valid-loop-index g l =
    let t = g.F.Node.Rooted.tree l.instance in
    let ss = l.self.nodes.items in
    record {
      last : l.count ≡ min (length (items t)) (length ss);
      answer : keyword_holds (each_keyword l.self) t
          ≡ each_holds (schemas_of (drop l.index ss)) (drop l.index (items t));
      counted_from : l.initial.ctx ≤ l.ctx;
      counted_to : l.ctx + each_needed (schemas_of (drop l.index ss)) (drop l.index (items t))
          ≤ l.initial.ctx + keyword_needed (each_keyword l.self) t;
    }

abbrev pub invariant-rest::RestValidate::is_valid-loop-index : goal.invariant-rest::RestValidate::is_valid-loop-index
invariant-rest::RestValidate::is_valid-loop-index g l =
    let t = g.F.Node.Rooted.tree l.instance in
    let s = l.self.node in
    record {
      answer : keyword_holds (rest_keyword l.self) t ≡ list_all (holds s) (drop l.index (items t));
      counted_from : l.fn.ctx ≤ l.ctx;
      counted_to : l.ctx + sum_to_failure (holds s) (needed s) (drop l.index (items t))
          ≤ l.fn.ctx + keyword_needed (rest_keyword l.self) t;
    }

abbrev pub invariant-matching::Matching::failing_location-loop-index
    : goal.invariant-matching::Matching::failing_location-loop-index
invariant-matching::Matching::failing_location-loop-index g l =
    let ts = items (g.F.Node.Rooted.tree l.instance) in
    let s = l.self.node in
    record {
      last : l.index-end ≡ length ts;
      few : l.matches ≤ l.index;
      decided : l.matches ≤ l.deciding_count;
      counted : l.matches + count_by (holds s) (drop l.index ts) ≡ count_by (holds s) ts;
      counted_from : l.initial.ctx ≤ l.ctx;
      counted_to : l.ctx + sum_by (needed s) (drop l.index ts) ≤ l.initial.ctx + sum_by (needed s) ts;
    }

abbrev pub invariant-part::parts_are_valid-loop-part : goal.invariant-part::parts_are_valid-loop-part
invariant-part::parts_are_valid-loop-part g l =
    let t = g.F.Node.Rooted.tree l.instance in
    record {
      answer : all_hold (keywords_of l.parts) t ≡ all_hold (keywords_of (drop l.part-index l.parts)) t;
      counted_from : l.initial.ctx ≤ l.ctx;
      counted_to : l.ctx + all_needed (keywords_of (drop l.part-index l.parts)) t
          ≤ l.initial.ctx + all_needed (keywords_of l.parts) t;
    }
