use Rattle.std.proofs.Common.{◌≡◌, ◌∷◌, true, false, arith, rules}
use Rattle.json.specs.Token as token
use Rattle.json.specs.Word.{ends_word}
use Rattle.jskw_value.specs.DecimalTree.{decimal_tree}
use Rattle.jskw_value.specs.Tree.{boolean, null}
use Rattle.jskw_value.specs.declared.decimal_tree.DecimalTree.{Bool, Null, the_lemmas}
use Rattle.std.proofs.Common.{Some, Ok, sym, ap}
use Rattle.jskw_text.proofs.Lexemes.{true_first, false_first, null_first}
use Rattle.jskw_text.proofs.quick.read_word.Goals as goal

pub returns-then-takes_word : goal.returns-then-takes_word
returns-then-takes_word c =
    let new = c.takes_word.new.self in
    let is : c.args.cursor.now ≡ 116 ∷ 114 ∷ 117 ∷ 101 ∷ new = grind arith in
    let ended : ends_word new ≡ true = c.if-takes_word.ensures.1 in
    let seen : decimal_tree (Bool true) ≡ boolean true = search (rules, the_lemmas) in
    (token.boolean true, true_first c.args.cursor.now new is ended, ap (λ t. Some (Ok t)) (sym seen))

pub returns-then-takes_word-2 : goal.returns-then-takes_word-2
returns-then-takes_word-2 c =
    let new = c.takes_word-else-takes_word.new.self in
    let is : c.args.cursor.now ≡ 102 ∷ 97 ∷ 108 ∷ 115 ∷ 101 ∷ new = grind arith in
    let ended : ends_word new ≡ true = c.if-takes_word-2.ensures.1 in
    let seen : decimal_tree (Bool false) ≡ boolean false = search (rules, the_lemmas) in
    (token.boolean false, false_first c.args.cursor.now new is ended, ap (λ t. Some (Ok t)) (sym seen))

pub returns-then-takes_word-3 : goal.returns-then-takes_word-3
returns-then-takes_word-3 c =
    let new = c.takes_word-else-takes_word-2.new.self in
    let is : c.args.cursor.now ≡ 110 ∷ 117 ∷ 108 ∷ 108 ∷ new = grind arith in
    let ended : ends_word new ≡ true = c.if-takes_word-3.ensures.1 in
    let seen : decimal_tree Null ≡ null = search (rules, the_lemmas) in
    (token.null, null_first c.args.cursor.now new is ended, ap (λ t. Some (Ok t)) (sym seen))
