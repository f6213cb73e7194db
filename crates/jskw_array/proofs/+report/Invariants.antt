use Rattle.std.proofs.Common.{◌≡◌, ◌+◌, ◌-◌, ◌*◌, ◌^◌, ◌≤◌, min, length, drop}
use Rattle.jskw_array.specs.Words.{all_applications, all_fail, all_height, applications, each_fails, each_item}
use Rattle.jskw_array.specs.Words.{each_keyword, fail, height, items, keeps_list, keyword_fail, keyword_height}
use Rattle.jskw_array.specs.Words.{keywords_of, meaning_applications, one_keyword, path_of, rest_keyword, schemas_of}
use Rattle.jskw_array.specs.Words.{validator_keyword}
use Rattle.jskw_array.proofs.ReportingWalks.{Walk, each_applications, items_applications}
use Rattle.jskw_array.proofs.+report.Given as goal

abbrev pub decreases-node::Subschema::report_errors : goal.decreases-node::Subschema::report_errors
decreases-node::Subschema::report_errors g l = 10 * height l.self.now

abbrev pub decreases-node::Subschema::report_item : goal.decreases-node::Subschema::report_item
decreases-node::Subschema::report_item g l = 10 * height l.self.now + 1

abbrev pub decreases-validator::ValidatorValidate::report_errors
    : goal.decreases-validator::ValidatorValidate::report_errors
decreases-validator::ValidatorValidate::report_errors g l = 10 * keyword_height (validator_keyword l.self.now) + 3

abbrev pub decreases-each::EachValidate::report_errors : goal.decreases-each::EachValidate::report_errors
decreases-each::EachValidate::report_errors g l = 10 * keyword_height (each_keyword l.self.now) + 2

abbrev pub decreases-rest::RestValidate::report_errors : goal.decreases-rest::RestValidate::report_errors
decreases-rest::RestValidate::report_errors g l = 10 * keyword_height (rest_keyword l.self.now) + 2

abbrev pub invariant-each::EachValidate::report_errors-loop-index
    : goal.invariant-each::EachValidate::report_errors-loop-index
invariant-each::EachValidate::report_errors-loop-index g l =
    let tree = g.F.Node.Rooted.tree in
    let t = tree l.instance in
    let ts = drop l.index (items t) in
    let p = path_of l.initial.location in
    let ss = schemas_of (drop l.index l.self.nodes.items) in
    let wanted = keeps_list l.initial.report in
    record {
      last : l.count ≡ min (length (items t)) (length l.self.nodes.items);
      walk : Walk tree l.initial.report l.report (each_fails ss l.index ts p) (keyword_fail (each_keyword l.self) t p)
          l.fn.ctx l.ctx (each_applications wanted ss ts)
          (meaning_applications wanted (one_keyword (each_keyword l.self)) t);
      location : l.location ≡ l.initial.location;
    }

abbrev pub invariant-rest::RestValidate::report_errors-loop-index
    : goal.invariant-rest::RestValidate::report_errors-loop-index
invariant-rest::RestValidate::report_errors-loop-index g l =
    let tree = g.F.Node.Rooted.tree in
    let t = tree l.instance in
    let ts = drop l.index (items t) in
    let p = path_of l.initial.location in
    let s = l.self.node in
    let wanted = keeps_list l.initial.report in
    record {
      last : l.count ≡ length (items t);
      walk : Walk tree l.initial.report l.report (each_item (fail s) l.index ts p)
          (keyword_fail (rest_keyword l.self) t p)
          l.fn.ctx l.ctx (items_applications wanted s ts)
          (meaning_applications wanted (one_keyword (rest_keyword l.self)) t);
      location : l.location ≡ l.initial.location;
    }

abbrev pub invariant-node::Subschema::report_errors-loop-part : goal.invariant-node::Subschema::report_errors-loop-part
invariant-node::Subschema::report_errors-loop-part g l =
    let tree = g.F.Node.Rooted.tree in
    let t = tree l.instance in
    let p = path_of l.initial.location in
    let ks = keywords_of (drop l.part-index l.parts) in
    let wanted = keeps_list l.initial.report in
    record {
      walk : Walk tree l.initial.report l.report (all_fail ks t p) (fail l.self t p) l.fn.ctx l.ctx
          (all_applications wanted ks t) (applications wanted l.self t);
      location : l.location ≡ l.initial.location;
      applied : min (l.fn.ctx + 1) (2 ^ 64 - 1) ≤ l.ctx;
      lower : 1 + all_height (keywords_of l.parts) ≤ height l.self;
    }
