use Rattle.std.proofs.Common.{◌≡◌, ◌+◌, ◌-◌, ◌*◌, ◌^◌, ◌≤◌, ◌++◌, Bool, min, length, drop, sum_by}
use Rattle.jskw_array.specs.Words.{all_pairs, each_keyword, each_pairs, evaluate_each, evaluate_matching}
use Rattle.jskw_array.specs.Words.{evaluate_pairs, height, holds, items, keyword_height, keyword_pairs, keywords_of}
use Rattle.jskw_array.specs.Words.{marked, matching_indices, pairs, path_of, rest_keyword, schema_location}
use Rattle.jskw_array.specs.Words.{schema_object, schemas_of, tree, units}
use Rattle.jskw_array.specs.Words.{validator_keyword}
use Rattle.jskw_array.proofs.+evaluate.Given as goal

abbrev pub decreases-node::Subschema::evaluate_instance_below : goal.decreases-node::Subschema::evaluate_instance_below
decreases-node::Subschema::evaluate_instance_below g l = 10 * height l.self.now

abbrev pub decreases-node::Subschema::evaluate_item : goal.decreases-node::Subschema::evaluate_item
decreases-node::Subschema::evaluate_item g l = 10 * height l.self.now + 1

abbrev pub decreases-validator::ValidatorValidate::evaluate : goal.decreases-validator::ValidatorValidate::evaluate
decreases-validator::ValidatorValidate::evaluate g l = 10 * keyword_height (validator_keyword l.self.now) + 3

abbrev pub decreases-each::EachValidate::evaluate : goal.decreases-each::EachValidate::evaluate
decreases-each::EachValidate::evaluate g l = 10 * keyword_height (each_keyword l.self.now) + 2

abbrev pub decreases-rest::RestValidate::evaluate : goal.decreases-rest::RestValidate::evaluate
decreases-rest::RestValidate::evaluate g l = 10 * keyword_height (rest_keyword l.self.now) + 2

abbrev pub decreases-matching::MatchingValidate::evaluate : goal.decreases-matching::MatchingValidate::evaluate
decreases-matching::MatchingValidate::evaluate g l = 10 * height l.self.now.node + 2

abbrev pub invariant-each::EachValidate::evaluate-loop-index : goal.invariant-each::EachValidate::evaluate-loop-index
invariant-each::EachValidate::evaluate-loop-index g l =
    let t = g.F.Node.Rooted.tree l.instance in
    let p = path_of l.initial.location in
    let ss = l.self.nodes.items in
    record {
      last : l.count ≡ min (length (items t)) (length ss);
      gathered : l.children.items ++ evaluate_pairs (schemas_of (drop l.index ss)) l.index (drop l.index (items t)) p
          ≡ evaluate_pairs (schemas_of ss) 0 (items t) p;
      location : l.location ≡ l.initial.location;
      counted_from : l.initial.ctx ≤ l.ctx;
      counted_to : l.ctx + each_pairs (schemas_of (drop l.index ss)) (drop l.index (items t))
          ≤ l.initial.ctx + keyword_pairs (each_keyword l.self) t;
    }

abbrev pub invariant-rest::RestValidate::evaluate-loop-index : goal.invariant-rest::RestValidate::evaluate-loop-index
invariant-rest::RestValidate::evaluate-loop-index g l =
    let t = g.F.Node.Rooted.tree l.instance in
    let p = path_of l.initial.location in
    let s = l.self.node in
    record {
      last : l.count ≡ length (items t);
      gathered : l.children.items ++ evaluate_each (tree s) l.index (drop l.index (items t)) p
          ≡ evaluate_each (tree s) l.self.start (drop l.self.start (items t)) p;
      location : l.location ≡ l.initial.location;
      counted_from : l.initial.ctx ≤ l.ctx;
      counted_to : l.ctx + sum_by (pairs s) (drop l.index (items t))
          ≤ l.initial.ctx + keyword_pairs (rest_keyword l.self) t;
    }

abbrev pub invariant-matching::MatchingValidate::evaluate-loop-index
    : goal.invariant-matching::MatchingValidate::evaluate-loop-index
invariant-matching::MatchingValidate::evaluate-loop-index g l =
    let ts = items (g.F.Node.Rooted.tree l.instance) in
    let p = path_of l.initial.location in
    let s = l.self.node in
    record {
      last : l.index-end ≡ length ts;
      gathered : l.children.items ++ evaluate_matching (holds s) (tree s) l.index (drop l.index ts) p
          ≡ evaluate_matching (holds s) (tree s) 0 ts p;
      matching : l.matches.items ++ matching_indices (holds s) l.index (drop l.index ts)
          ≡ matching_indices (holds s) 0 ts;
      location : l.location ≡ l.initial.location;
      counted_from : l.initial.ctx ≤ l.ctx;
      counted_to : l.ctx + sum_by (pairs s) (drop l.index ts) ≤ l.initial.ctx + sum_by (pairs s) ts;
    }

abbrev pub invariant-node::Subschema::evaluate_instance_below-loop-part
    : goal.invariant-node::Subschema::evaluate_instance_below-loop-part
invariant-node::Subschema::evaluate_instance_below-loop-part g l =
    let t = g.F.Node.Rooted.tree l.instance in
    let p = path_of l.initial.location in
    record {
      whole : (delegates : Bool)
          × (l.self ≡ schema_object (schema_location l.self) (marked delegates l.parts) (keywords_of l.parts));
      gathered : l.children.items ++ units (keywords_of (drop l.part-index l.parts)) t p
          ≡ units (keywords_of l.parts) t p;
      path : l.path ≡ p;
      location : l.location ≡ l.initial.location;
      applied : min (l.fn.ctx + 1) (2 ^ 64 - 1) ≤ l.ctx;
      counted_from : l.fn.ctx ≤ l.ctx;
      counted_to : l.ctx + all_pairs (keywords_of (drop l.part-index l.parts)) t
          ≤ l.fn.ctx + 1 + all_pairs (keywords_of l.parts) t;
    }
