use Rattle.std.proofs.Common.{ap, sym}
use Rattle.std.specs.Prelude.{codes}
use Rattle.std.proofs.Common.{◌++◌}
use Rattle.jskw_service.proofs.Parts.{four_parts}
use Rattle.jskw_documents.proofs.errors.push_objects.Goals as goal

pub returns : goal.returns
returns c =
    let before = codes ",\"valid\":false,\"errors\":[" in
    let first = c.args.first.now in
    let rest = c.args.rest.now in
    four_parts _ _ _ _ _ _ before first rest c.objects_end.result.now _ c.in_ok-push_bytes.ensures
    c.in_ok-push_bytes-2.ensures c.in_ok-push_bytes-3.ensures c.push_bytes-4.ensures
    (ap (λ z. before ++ (first ++ (rest ++ z))) (sym c.objects_end.ensures))
