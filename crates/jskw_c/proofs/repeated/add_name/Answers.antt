use Rattle.std.specs.BTreeSet.{contains}
use Rattle.json.specs.Value.{members_view}
use Rattle.jskw_c.specs.Names.{name_cmp}
use Rattle.jskw_c.specs.Repeated.{has_member_named}
use Rattle.jskw_c.proofs.Joined.{joined}
use Rattle.jskw_c.proofs.repeated.add_name.Goals as goal

pub returns-clause-names : goal.returns-clause-names
returns-clause-names c q =
    joined (contains name_cmp c.args.seen.now q) (contains name_cmp c.insert.new.self q)
    (has_member_named q.now (members_view c.args.behind.now)) c.args.name.now q.now (c.in_ok-insert.ensures.updates.0 q)
    (c.requires q)
