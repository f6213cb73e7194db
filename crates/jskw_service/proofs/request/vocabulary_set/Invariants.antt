use Rattle.std.proofs.Common.{◌≡◌, drop, option_map}
use Rattle.serde_json.specs.View.{items_view}
use Rattle.jskw_service.specs.Request.{vocabulary_set}
use Rattle.jskw_service.proofs.Requests.{joined}
use Rattle.jskw_service.proofs.request.vocabulary_set.Given as goal

-- those so far, with those that are left
abbrev pub invariant-loop-item : goal.invariant-loop-item
invariant-loop-item l =
    vocabulary_set (items_view l.items)
    ≡ option_map (joined l.vocabularies) (vocabulary_set (items_view (drop l.item-index l.items)))
