use Rattle.std.proofs.Common.{◌≡◌, [], refl, ◌∙◌}
use Rattle.json.specs.Lex.{between, lex}
use Rattle.jskw_value.specs.DecimalTree.{decimal_tree}
use Rattle.jskw_text.proofs.Passing.{nothing_left, whole_read}
use Rattle.jskw_text.proofs.quick.read_quickly.Goals as goal

pub returns : goal.returns
returns c =
    let tree = decimal_tree c.in_ok-tree.tree in
    let new = c.read.new.cursor in
    let taken = c.in_ok-tree.ensures.ok in
    let ended : lex between new ≡ [] =
    c.skip_spaces.ensures.lexed ∙ nothing_left c.skip_spaces.new.self (c.if-not-is_at_end.ensures refl) in
    (taken.0, whole_read c.args.cursor.now new taken.0 c.requires taken.1 ended, taken.2)
