use Rattle.std.proofs.Common.{◌≡◌, ◌++◌, drop, map, option_map, string_bytes}
use Rattle.serde_json.specs.View.{items_view}
use Rattle.jskw_service.specs.Request.{texts_of}
use Rattle.jskw_service.proofs.request.texts_of.Given as goal

-- those so far, with those that are left
abbrev pub invariant-loop-item : goal.invariant-loop-item
invariant-loop-item l =
    texts_of (items_view l.items)
    ≡ option_map (λ names. map string_bytes l.texts.items ++ names) (texts_of (items_view (drop l.item-index l.items)))
