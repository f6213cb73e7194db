use Rattle.jskw_wanted.proofs.Growth.{one_more}
use Rattle.jskw_wanted.proofs.asked.Asked.add_schema.Goals as goal

pub returns-clause-grows : goal.returns-clause-grows
returns-clause-grows c = record {
  whole = λ e. e;
  text = λ e. e;
  names = (λ e. e, λ k e. e);
  items_whole = λ e. e;
  below = λ ls e.
      (one_more c.args.self.now.below.items c.push.new.self.items c.args.schema c.in_ok-push.ensures.items ls e).0;
}

pub returns-clause-asks : goal.returns-clause-asks
returns-clause-asks c = λ ls e.
    (one_more c.args.self.now.below.items c.push.new.self.items c.args.schema c.in_ok-push.ensures.items ls e).1
