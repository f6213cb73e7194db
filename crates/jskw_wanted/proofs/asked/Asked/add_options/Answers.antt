use Rattle.jskw_wanted.proofs.Growth.{further, next_option}
use Rattle.jskw_wanted.proofs.asked.Asked.add_options.Goals as goal

pub options-preserved : goal.options-preserved
options-preserved c =
    let l = c.options in
    let new = c.add_option.new.self in (
      further c.args.self.now l.self new l.invariant.0 c.add_option.ensures.grows,
      next_option l.self new c.args.options.now l.option-index c.option-item.result c.options-test.true
          c.option-item.is l.invariant.1 c.add_option.ensures.grows c.add_option.ensures.asks,
    )
