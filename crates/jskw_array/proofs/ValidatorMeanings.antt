-- What a validator of a list of schemas says, whichever keyword it is of.
use Rattle.std.proofs.Common.{◌≡◌, ◌∙◌, true, ap, length}
use Rattle.jskw_array.specs.Words.{Each, Pointer, Tree, each_keyword, each_of, evaluate_pairs, items, of_children}
use Rattle.jskw_array.specs.Words.{prefix_annotation, schemas_of, unit}
use Rattle.jskw_array.proofs.WalksOverItems.{count_of}

module _ {F Node Number Key : Type 0} (v : Each F Node Number Key) where
  -- the unit of `prefixItems`
  pub prefix_unit_is : v.is_prefix ≡ true → (t : Tree) (p : Pointer)
      → unit (each_keyword v) t p ≡ of_children (prefix_annotation (length v.nodes.items) (length (items t)))
      (evaluate_pairs (schemas_of v.nodes.items) 0 (items t) p)
  prefix_unit_is e t p = ap (λ b. unit (each_of b (schemas_of v.nodes.items)) t p) e
      ∙ ap (λ k. of_children (prefix_annotation k (length (items t)))
      (evaluate_pairs (schemas_of v.nodes.items) 0 (items t) p)) (count_of v.nodes.items)
