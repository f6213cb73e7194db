use Rattle.std.proofs.Common.{arith}
use Rattle.jskw_value.specs.DecimalTree.{decimal_tree}
use Rattle.jskw_report.specs.Errors.{failure_of}
use Rattle.jskw_documents.specs.Shown.{IsLaterObject}
use Rattle.jskw_service.proofs.Parts.{all_written, next_written}
use Rattle.jskw_documents.proofs.errors.later_objects.Goals as goal

pub loop-error-preserved : goal.loop-error-preserved
loop-error-preserved c =
    let l = c.loop-error in
    next_written (IsLaterObject c.args.document.now.line)
    (failure_of decimal_tree) c.args.errors.now l.error-index c.error-item.result l.text.items
    c.push_later_object.new.text.items c.loop-error-test.true c.error-item.is l.invariant
    c.in_ok-push_later_object.ensures

pub returns : goal.returns
returns c =
    let l = c.loop-error in
    all_written (IsLaterObject c.args.document.now.line)
    (failure_of decimal_tree) c.args.errors.now l.error-index l.text.items (omega arith) l.invariant
