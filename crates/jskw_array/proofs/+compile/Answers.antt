use Rattle.std.proofs.Common.{rules, ◌≡◌, Bool, ℕ, Some, None, Result, Ok, Err, true, false, drop, get_or, refl, sym}
use Rattle.std.proofs.Common.{ap, ap₂, subst, ◌∙◌, arith}
use Rattle.jskw_array.specs.Words.{Array, Keyword, CompilesTo, Refusal, Schema, absorbed_keywords, active_member, after}
use Rattle.jskw_array.specs.Words.{is_some, shape_in, as_array, before, boxed_bounds, contains}
use Rattle.jskw_array.specs.Words.{fused_keywords, get_member, is_fused, is_items_schema, items_depth, items_from}
use Rattle.jskw_array.specs.Words.{bare_keyword, items_start, items_view, join_ok, keyword_location}
use Rattle.jskw_array.specs.Words.{keywords, keywords_of}
use Rattle.jskw_array.specs.Words.{map_ok, members_view, name_of, no_keywords, of_type, readings_named, read}
use Rattle.jskw_array.specs.Words.{read_bounds, read_keywords, array_schema_count, shape_keywords}
use Rattle.jskw_array.specs.Words.{validator_keyword, view, wrong}
use Rattle.jskw_report.specs.declared.keyword.KeywordName.TheVariants as keyword_name
use Rattle.jskw_array.specs.declared.validator.Validator.TheVariants as validator
use Rattle.jskw_array.proofs.Depths.{depth_array, item_depth, member_depth}
use Rattle.jskw_array.proofs.CompiledSchemas.{after_none as after_no_schemas, each_end, each_made, each_refused}
use Rattle.jskw_array.proofs.CompiledSchemas.{schemas_in}
use Rattle.jskw_leaf.proofs.PassedFaults.{compiles_as, passed_by_try, refused_whole}
use Rattle.jskw_leaf.proofs.FusedReading.{fused_items, is_there}
use Rattle.jskw_array.proofs.FusedReading.{fused_behind, is_one, shape_reads}
use Rattle.jskw_array.proofs.KeywordReadings.{additional_absent, additional_false, additional_of_schema}
use Rattle.jskw_array.proofs.KeywordReadings.{additional_true, contains_of_schema, contains_read, items_of_array}
use Rattle.jskw_array.proofs.KeywordReadings.{items_of_one, items_silent, prefix_of_array, prefix_refused, read_boolean}
use Rattle.jskw_array.proofs.KeywordReadings.{view-Bool}
use Rattle.jskw_array.proofs.CompiledKeywords.{active_depth, active_reads, after_empty, inactive_reads, keyword_same}
use Rattle.jskw_array.proofs.CompiledKeywords.{ok_then, turn_end, turn_made, turn_refused, turn_silent}
use Rattle.jskw_array.proofs.+compile.Goals as goal

-- ---- a schema

pub compiler::compile_subschema-returns-in_ok-boolean_node-in-Bool
    : goal.compiler::compile_subschema-returns-in_ok-boolean_node-in-Bool
compiler::compile_subschema-returns-in_ok-boolean_node-in-Bool g t c =
    let s = c.args.ctx.now.setting in
    let p = c.args.ctx.now.location in
    ap (λ x. read x s p) (ap view c.in-Bool.is ∙ view-Bool c.in-Bool.accepts) ∙ read_boolean c.in-Bool.accepts s p
    ∙ ap Ok (sym c.in_ok-boolean_node-in-Bool.ensures)

-- ---- the parts of an object

pub compiler::push_parts-push_shape-requires : goal.compiler::push_parts-push_shape-requires
compiler::push_parts-push_shape-requires g t c κs within =
    let there : is_fused c.args.ctx.now.setting (members_view c.args.parent.now.entries) ≡ true =
    search (rules, c.requires.values, c.is_array_shape.ensures, c.if-not-is_array_shape.false) in
    (omega (arith, c.decreases), search (rules, there, c.requires))

pub compiler::push_parts-returns-then-not-is_array_shape-clause-made
    : goal.compiler::push_parts-returns-then-not-is_array_shape-clause-made
compiler::push_parts-returns-then-not-is_array_shape-clause-made g t c =
    let ms = members_view c.args.parent.now.entries in
    let all =
    read_keywords keywords c.args.ctx.now.setting c.args.ctx.now.location ms (λ name. readings_named name ms) in
    subst (CompilesTo (λ _. keywords_of c.push_keywords.new.parts.items) c.push_keywords.result)
    (after_empty _ c.requires.empty all) c.push_keywords.ensures.made

pub compiler::push_parts-returns-then-not-is_array_shape-clause-fused
    : goal.compiler::push_parts-returns-then-not-is_array_shape-clause-fused
compiler::push_parts-returns-then-not-is_array_shape-clause-fused g t c =
    let lacks : is_fused c.args.ctx.now.setting (members_view c.args.parent.now.entries) ≡ false =
    search (rules, c.requires.values, c.is_array_shape.ensures, c.if-not-is_array_shape.true) in
    ok_then c.push_keywords.result (λ _ same. ap is_some (same ∙ ap shape_in c.requires.empty) ∙ sym lacks)
    c.push_keywords.ensures.fused

pub compiler::push_shape-returns-clause-made : goal.compiler::push_shape-returns-clause-made
compiler::push_shape-returns-clause-made g t c = c.push_compiled.ensures.made _ c.compile.ensures

pub compiler::push_parts-returns-clause-made : goal.compiler::push_parts-returns-clause-made
compiler::push_parts-returns-clause-made g t c =
    let js = keywords_of c.push_shape.new.parts.items in
    let all =
    fused_behind fused_keywords (drop 4 keywords) c.args.ctx.now.setting c.args.ctx.now.location
    (members_view c.args.parent.now.entries) js c.in_ok-push_shape.ensures.made in
    subst (CompilesTo (λ _. keywords_of c.push_keywords-2.new.parts.items) c.push_keywords-2.result) (sym all)
    c.push_keywords-2.ensures.made

pub compiler::push_shape-unreachable-requires : goal.compiler::push_shape-unreachable-requires
compiler::push_shape-unreachable-requires g t c =
    let s = c.args.ctx.now.setting in
    let ms = members_view c.args.parent.now.entries in
    let lost : get_member (name_of keyword_name.Items) ms ≡ None =
    search (rules, c.requires.values, c.get.ensures, c.in_default.is) in
    is_there s ms keyword_name.Items is_items_schema (fused_items s ms c.requires.fused) lost

pub compiler::push_shape-compile-requires : goal.compiler::push_shape-compile-requires
compiler::push_shape-compile-requires g t c κs within =
    let ms = members_view c.args.parent.now.entries in
    let found : get_member (name_of keyword_name.Items) ms ≡ Some (view c.in-Some.items.now) =
    search (rules, c.requires.values, c.get.ensures, c.in-Some.is) in
    let below = member_depth (name_of keyword_name.Items) ms (view c.in-Some.items.now) found in
    (omega (arith, below, c.decreases), search (rules, found, c.requires.fused))

pub items::array_shape::ArrayShapeValidator::compile-compile_schema-compiled-requires
    : goal.items::array_shape::ArrayShapeValidator::compile-compile_schema-compiled-requires
items::array_shape::ArrayShapeValidator::compile-compile_schema-compiled-requires g t c κs within =
    let one =
    (is_one c.args.ctx.now (members_view c.args.parent.now.entries) (view c.args.items.now) c.requires.fused
    c.requires.items).0 in
    (omega (arith, c.decreases), search (rules, one))

pub items::array_shape::ArrayShapeValidator::compile-returns
    : goal.items::array_shape::ArrayShapeValidator::compile-returns
items::array_shape::ArrayShapeValidator::compile-returns g t c =
    let point = c.args.ctx.now in
    let ms = members_view c.args.parent.now.entries in
    let d = view c.args.items.now in
    let of_shape =
    shape_keywords {F = g.row.F.Denot} {Node = g.row.F-Node.Denot} {Number = g.row.F-Node-Number.Denot}
    {Key = g.row.F-Node-PreparedKey.Denot} in
    let absorbed = absorbed_keywords c.in_ok-absorbed.absorbed.value in
    let all = shape_reads point ms d c.requires.fused c.requires.items absorbed c.in_ok-absorbed.ensures in
    subst (CompilesTo of_shape c.with_items.result) (sym all)
    (c.with_items.ensures _ c.compile_schema-compiled.ensures)

-- ---- the keywords of an object

pub compiler::push_keywords-compile_keyword-compiled-requires
    : goal.compiler::push_keywords-compile_keyword-compiled-requires
compiler::push_keywords-compile_keyword-compiled-requires g t c κs within =
    let ms = members_view c.args.parent.now.entries in
    let w = get_or c.args.keywords.now c.loop-keyword.keyword-index keyword_name.TypeKeyword in
    let found : active_member c.args.ctx.now.setting ms w ≡ Some (view c.in-Some.schema.now) =
    search (rules, c.requires.values, c.active_member.ensures, c.in-Some.is) in
    let below = active_depth w c.args.ctx.now ms (view c.in-Some.schema.now) found in
    (omega (arith, below, c.decreases), search (rules, c.requires))

pub compiler::push_keywords-loop-keyword-init : goal.compiler::push_keywords-loop-keyword-init
compiler::push_keywords-loop-keyword-init g t c =
    record { whole = refl; fused = refl; begins = c.requires.begins }

pub compiler::push_keywords-loop-keyword-preserved-in_default
    : goal.compiler::push_keywords-loop-keyword-preserved-in_default
compiler::push_keywords-loop-keyword-preserved-in_default g t c =
    let l = c.loop-keyword in
    let w = get_or c.args.keywords.now l.keyword-index keyword_name.TypeKeyword in
    let none : active_member c.args.ctx.now.setting (members_view c.args.parent.now.entries) w ≡ None =
    search (rules, c.requires.values, c.active_member.ensures, c.in_default.is) in
    record {
      whole =
          turn_silent _ _ _ _ _ _ c.args.keywords.now l.keyword-index keyword_name.TypeKeyword c.loop-keyword-test.true
          l.invariant.whole (inactive_reads w c.args.ctx.now _ none);
      fused = l.invariant.fused;
      begins = l.invariant.begins;
    }

pub compiler::push_keywords-loop-keyword-preserved : goal.compiler::push_keywords-loop-keyword-preserved
compiler::push_keywords-loop-keyword-preserved g t c =
    let l = c.loop-keyword in
    let w = get_or c.args.keywords.now l.keyword-index keyword_name.TypeKeyword in
    let found : active_member c.args.ctx.now.setting (members_view c.args.parent.now.entries) w
    ≡ Some (view c.in-Some.schema.now) = search (rules, c.requires.values, c.active_member.ensures, c.in-Some.is) in
    record {
      whole =
          turn_made _ _ _ _ _ _ c.args.keywords.now l.keyword-index keyword_name.TypeKeyword c.loop-keyword-test.true
          l.invariant.whole _
          (ap (λ read. after (keywords_of l.parts.items)
          (before (keyword_location c.args.ctx.now.location w) read (Ok no_keywords)))
          (active_reads w c.args.ctx.now _ _ found)
          ∙ c.in_ok-push_part.ensures.made _ c.compile_keyword-compiled.ensures);
      fused = c.in_ok-push_part.ensures.fused ∙ l.invariant.fused;
      begins = c.in_ok-push_part.ensures.begins l.invariant.begins;
    }

pub compiler::push_keywords-returns-in_err-push_part-clause-made
    : goal.compiler::push_keywords-returns-in_err-push_part-clause-made
compiler::push_keywords-returns-in_err-push_part-clause-made g t c =
    let l = c.loop-keyword in
    let w = get_or c.args.keywords.now l.keyword-index keyword_name.TypeKeyword in
    let found : active_member c.args.ctx.now.setting (members_view c.args.parent.now.entries) w
    ≡ Some (view c.in-Some.schema.now) = search (rules, c.requires.values, c.active_member.ensures, c.in-Some.is) in
    let new = λ (u : Unit {0}). keywords_of c.push_part.new.parts.items in
    passed_by_try new new c.in_err-push_part.field-0.0 _ _ _ c.from_residual.ensures.1
    (c.in_err-push_part.ensures.made _ c.compile_keyword-compiled.ensures)
    (λ x refused. turn_refused _ _ _ _ _ _ c.args.keywords.now l.keyword-index keyword_name.TypeKeyword
    c.loop-keyword-test.true l.invariant.whole x
    (ap (λ read. after (keywords_of l.parts.items)
    (before (keyword_location c.args.ctx.now.location w) read (Ok no_keywords)))
    (active_reads w c.args.ctx.now _ _ found) ∙ refused))

pub compiler::push_keywords-returns-clause-fused : goal.compiler::push_keywords-returns-clause-fused
compiler::push_keywords-returns-clause-fused g t c = c.loop-keyword.invariant.fused

pub compiler::push_keywords-returns-clause-made : goal.compiler::push_keywords-returns-clause-made
compiler::push_keywords-returns-clause-made g t c =
    let ms = members_view c.args.parent.now.entries in
    turn_end (keywords_of c.loop-keyword.parts.items) _ c.args.ctx.now.setting c.args.ctx.now.location ms
    (λ name. readings_named name ms) c.args.keywords.now c.loop-keyword.keyword-index c.loop-keyword-test.false
    c.loop-keyword.invariant.whole

-- ---- an array of schemas

pub compiler::compile_each-loop-index-init : goal.compiler::compile_each-loop-index-init
compiler::compile_each-loop-index-init g t c = rw c.in_ok-nodes.ensures.items (after_no_schemas _)

pub compiler::compile_each-compile_subschema-requires : goal.compiler::compile_each-compile_subschema-requires
compiler::compile_each-compile_subschema-requires g t c κs within =
    let below =
    item_depth c.args.schemas.now c.loop-index.index c.index-schemas-index.result c.loop-index-test.true
    c.index-schemas-index.is in
    (omega (arith, below, c.decreases), search rules)

pub compiler::compile_each-loop-index-preserved : goal.compiler::compile_each-loop-index-preserved
compiler::compile_each-loop-index-preserved g t c =
    let made =
    subst (λ point. CompilesTo (λ (n : Schema). n) c.compile_subschema.result
    (read (view c.index-schemas-index.result) point.setting point.location)) c.in_ok-item.ensures
    c.compile_subschema.ensures in
    each_made c.loop-index.nodes.items _ _ _ c.args.schemas.now _ _ c.loop-index-test.true c.index-schemas-index.is
    c.loop-index.invariant _ (c.in_ok-push_node.ensures _ made)

pub compiler::compile_each-returns-in_err-push_node : goal.compiler::compile_each-returns-in_err-push_node
compiler::compile_each-returns-in_err-push_node g t c =
    let made =
    subst (λ point. CompilesTo (λ (n : Schema). n) c.compile_subschema.result
    (read (view c.index-schemas-index.result) point.setting point.location)) c.in_ok-item.ensures
    c.compile_subschema.ensures in
    passed_by_try (λ (u : Unit {0}). c.push_node.new.nodes.items) schemas_in c.in_err-push_node.field-0.0 _ _ _
    c.from_residual-in_err-push_node.ensures.1 (c.in_err-push_node.ensures _ made)
    (each_refused c.loop-index.nodes.items _ _ _ c.args.schemas.now _ _ c.loop-index-test.true c.index-schemas-index.is
    c.loop-index.invariant)

pub compiler::compile_each-returns : goal.compiler::compile_each-returns
compiler::compile_each-returns g t c =
    let l = c.loop-index in
    each_end l.nodes.items _ c.args.ctx.now.setting c.args.ctx.now.location c.args.schemas.now l.index
    c.loop-index-test.false l.invariant

-- ---- the value of a keyword

pub compiler::compile_at-returns : goal.compiler::compile_at-returns
compiler::compile_at-returns g t c =
    subst (λ point. CompilesTo (λ (n : Schema). n) c.compile_subschema.result
    (read (view c.args.schema.now) point.setting point.location)) c.in_ok-below.ensures c.compile_subschema.ensures

pub compiler::compile_at-compile_subschema-requires : goal.compiler::compile_at-compile_subschema-requires
compiler::compile_at-compile_subschema-requires g t c κs within = (omega (arith, c.decreases), search rules)

pub compiler::compile_list-compile_each-requires : goal.compiler::compile_list-compile_each-requires
compiler::compile_list-compile_each-requires g t c κs within =
    let same = ap (λ vs. items_depth (items_view vs)) c.as_slice.ensures.value in
    (omega (arith, same, c.decreases), search rules)

-- ---- `prefixItems`

pub prefix_items::compile-returns-in_default : goal.prefix_items::compile-returns-in_default
prefix_items::compile-returns-in_default g t c =
    let ms = members_view c.args.parent.now.entries in
    let d = view c.args.schema.now in
    let lost : as_array d ≡ None = search (rules, c.as_array.ensures) in
    let refusal = wrong (of_type Array) (keyword_location c.args.ctx.now.location keyword_name.PrefixItems) d in
    compiles_as (validator_keyword {F = g.row.F.Denot} {Node = g.row.F-Node.Denot} {Number = g.row.F-Node-Number.Denot}
    {Key = g.row.F-Node-PreparedKey.Denot}) (Some (Err c.no_array.result)) _ (Some refusal)
    (prefix_refused c.args.ctx.now ms d lost)
    (refused_whole (λ (k : Keyword). k) (validator_keyword {F = g.row.F.Denot} {Node = g.row.F-Node.Denot}
    {Number = g.row.F-Node-Number.Denot} {Key = g.row.F-Node-PreparedKey.Denot}) c.no_array.result refusal refusal
    c.no_array.ensures (λ r e. e))

pub prefix_items::compile-returns : goal.prefix_items::compile-returns
prefix_items::compile-returns g t c =
    let found : as_array (view c.args.schema.now) ≡ Some (items_view c.in-Some.schemas.now.items) =
    search (rules, c.as_array.ensures, c.in-Some.is) in
    compiles_as _ (Some c.compile_list.result) _ _
    (prefix_of_array c.args.ctx.now (members_view c.args.parent.now.entries) _ _ found) c.compile_list.ensures

-- ---- `items`

pub items::compile-returns-in-Some : goal.items::compile-returns-in-Some
items::compile-returns-in-Some g t c =
    let found : as_array (view c.args.schema.now) ≡ Some (items_view c.in-Some.schemas.now.items) =
    search (rules, c.as_array.ensures, c.in-Some.is) in
    compiles_as _ (Some c.compile_list.result) _ _
    (items_of_array c.args.ctx.now (members_view c.args.parent.now.entries) _ _ found) c.compile_list.ensures

pub items::compile-returns-then-not-is_items_schema : goal.items::compile-returns-then-not-is_items_schema
items::compile-returns-then-not-is_items_schema g t c =
    let keyword_of =
    validator_keyword {F = g.row.F.Denot} {Node = g.row.F-Node.Denot} {Number = g.row.F-Node-Number.Denot}
    {Key = g.row.F-Node-PreparedKey.Denot} in
    let ms = members_view c.args.parent.now.entries in
    let d = view c.args.schema.now in
    let lost : as_array d ≡ None = search (rules, c.as_array.ensures) in
    compiles_as keyword_of None _ None
    (items_silent c.args.ctx.now ms d lost (sym c.is_items_schema.ensures ∙ c.if-not-is_items_schema.true)) tt

pub items::compile-compile_schema-requires : goal.items::compile-compile_schema-requires
items::compile-compile_schema-requires g t c κs within =
    let one = sym c.is_items_schema.ensures ∙ c.if-not-is_items_schema.false in
    (omega (arith, c.decreases), search (rules, one))

pub items::compile-returns : goal.items::compile-returns
items::compile-returns g t c =
    let ms = members_view c.args.parent.now.entries in
    let d = view c.args.schema.now in
    compiles_as _ (Some c.compile_schema.result) _ _
    (items_of_one c.args.ctx.now ms d (sym c.is_items_schema.ensures ∙ c.if-not-is_items_schema.false))
    c.compile_schema.ensures

pub items::compile_schema-returns-in_err-compile : goal.items::compile_schema-returns-in_err-compile
items::compile_schema-returns-in_err-compile g t c =
    let s = c.args.ctx.now.setting in
    let ms = members_view c.args.parent.now.entries in
    let value : Bool → Result Keyword Refusal =
    λ b. map_ok (λ sub. items_from (items_start s ms) sub b)
    (read (view c.args.schema.now) s (keyword_location c.args.ctx.now.location keyword_name.Items)) in
    let bare = sym c.is_bare.ensures ∙ c.if-is_bare.true in
    passed_by_try (bare_keyword {F = g.row.F.Denot} {Node = g.row.F-Node.Denot} {Number = g.row.F-Node-Number.Denot}
    {Key = g.row.F-Node-PreparedKey.Denot}) (validator_keyword {F = g.row.F.Denot} {Node = g.row.F-Node.Denot}
    {Number = g.row.F-Node-Number.Denot} {Key = g.row.F-Node-PreparedKey.Denot}) c.in_err-compile.field-0.0 _
    (value true) _ c.from_residual.ensures.1 c.in_err-compile.ensures (λ r e. ap value bare ∙ e)

pub items::compile_schema-returns-then-is_bare : goal.items::compile_schema-returns-then-is_bare
items::compile_schema-returns-then-is_bare g t c =
    let s = c.args.ctx.now.setting in
    let ms = members_view c.args.parent.now.entries in
    let value : Bool → Result Keyword Refusal =
    λ b. map_ok (λ sub. items_from (items_start s ms) sub b)
    (read (view c.args.schema.now) s (keyword_location c.args.ctx.now.location keyword_name.Items)) in
    ap value (sym c.is_bare.ensures ∙ c.if-is_bare.true) ∙ c.in_ok-compile.ensures

pub items::compile_schema-returns : goal.items::compile_schema-returns
items::compile_schema-returns g t c =
    let s = c.args.ctx.now.setting in
    let d = view c.args.schema.now in
    let bare = sym c.is_bare.ensures ∙ c.if-is_bare.false in
    let value : ℕ → Bool → Result Keyword Refusal =
    λ n b. map_ok (λ sub. items_from n sub b)
    (read d s (keyword_location c.args.ctx.now.location keyword_name.Items)) in
    subst (CompilesTo (validator_keyword {F = g.row.F.Denot} {Node = g.row.F-Node.Denot}
    {Number = g.row.F-Node-Number.Denot} {Key = g.row.F-Node-PreparedKey.Denot}) c.of_schema.result)
    (ap₂ value c.items_start-start.ensures (sym bare)) (c.of_schema.ensures _ c.compile_at.ensures)

-- ---- `additionalItems`

pub additional_items::compile-returns-in_default : goal.additional_items::compile-returns-in_default
additional_items::compile-returns-in_default g t c =
    let keyword_of =
    validator_keyword {F = g.row.F.Denot} {Node = g.row.F-Node.Denot} {Number = g.row.F-Node-Number.Denot}
    {Key = g.row.F-Node-PreparedKey.Denot} in
    let ms = members_view c.args.parent.now.entries in
    let d = view c.args.schema.now in
    let lost : array_schema_count (get_member (name_of keyword_name.Items) ms) ≡ None =
    search (rules, c.schema_count.ensures) in
    compiles_as keyword_of None _ None (additional_absent c.args.ctx.now ms d lost) tt

pub additional_items::compile-returns-in-Some-true : goal.additional_items::compile-returns-in-Some-true
additional_items::compile-returns-in-Some-true g t c =
    let keyword_of =
    validator_keyword {F = g.row.F.Denot} {Node = g.row.F-Node.Denot} {Number = g.row.F-Node-Number.Denot}
    {Key = g.row.F-Node-PreparedKey.Denot} in
    let ms = members_view c.args.parent.now.entries in
    let d = view c.args.schema.now in
    compiles_as keyword_of None _ None (additional_true c.args.ctx.now ms d
    (sym c.as_bool.ensures ∙ c.in-Some-true.is ∙ ap Some c.in-Some-true.field-0-test)) tt

pub additional_items::compile-returns-in-Some-false : goal.additional_items::compile-returns-in-Some-false
additional_items::compile-returns-in-Some-false g t c =
    let ms = members_view c.args.parent.now.entries in
    let d = view c.args.schema.now in
    let count : array_schema_count (get_member (name_of keyword_name.Items) ms) ≡ Some c.in-Some.items_count =
    sym c.schema_count.ensures ∙ c.in-Some.is in
    compiles_as _ c.no_more.result _ _ (additional_false c.args.ctx.now ms d c.in-Some.items_count count
    (sym c.as_bool.ensures ∙ c.in-Some-false.is ∙ ap Some c.in-Some-false.field-0-test)) c.no_more.ensures

pub additional_items::compile-returns : goal.additional_items::compile-returns
additional_items::compile-returns g t c =
    let ms = members_view c.args.parent.now.entries in
    let d = view c.args.schema.now in
    let count : array_schema_count (get_member (name_of keyword_name.Items) ms) ≡ Some c.in-Some.items_count =
    sym c.schema_count.ensures ∙ c.in-Some.is in
    compiles_as _ (Some c.of_schema.result) _ _
    (additional_of_schema c.args.ctx.now ms d c.in-Some.items_count count (sym c.as_bool.ensures ∙ c.in-None.is))
    (c.of_schema.ensures _ c.compile_at.ensures)

-- ---- `contains`

pub contains::compile-returns-in-Ok-compile_at : goal.contains::compile-returns-in-Ok-compile_at
contains::compile-returns-in-Ok-compile_at g t c =
    let keyword_of =
    validator_keyword {F = g.row.F.Denot} {Node = g.row.F-Node.Denot} {Number = g.row.F-Node-Number.Denot}
    {Key = g.row.F-Node-PreparedKey.Denot} in
    let ms = members_view c.args.parent.now.entries in
    let d = view c.args.schema.now in
    let b = boxed_bounds c.in-Ok.bounds in
    let sub = read d c.args.ctx.now.setting (keyword_location c.args.ctx.now.location keyword_name.Contains) in
    let made : CompilesTo boxed_bounds (Ok c.in-Ok.bounds)
    (read_bounds c.args.ctx.now.setting c.args.ctx.now.location ms) =
    subst (λ r. CompilesTo boxed_bounds r (read_bounds c.args.ctx.now.setting c.args.ctx.now.location ms)) c.in-Ok.is
    c.bounds_beside.ensures in
    let node = subst (λ r. CompilesTo (λ (s : Schema). s) r sub) c.in-Ok-compile_at.is c.compile_at.ensures in
    compiles_as keyword_of (Some (Ok (validator.Matching
    (record { node = c.in-Ok-compile_at.node; bounds = c.in-Ok.bounds })))) _ (Some (map_ok (λ s. contains s b) sub))
    (contains_of_schema c.args.ctx.now ms d b made) (ap (map_ok (λ s. contains s b)) node)

pub contains::compile-returns-in-Err-compile_at : goal.contains::compile-returns-in-Err-compile_at
contains::compile-returns-in-Err-compile_at g t c =
    let keyword_of =
    validator_keyword {F = g.row.F.Denot} {Node = g.row.F-Node.Denot} {Number = g.row.F-Node-Number.Denot}
    {Key = g.row.F-Node-PreparedKey.Denot} in
    let ms = members_view c.args.parent.now.entries in
    let d = view c.args.schema.now in
    let b = boxed_bounds c.in-Ok.bounds in
    let sub = read d c.args.ctx.now.setting (keyword_location c.args.ctx.now.location keyword_name.Contains) in
    let made : CompilesTo boxed_bounds (Ok c.in-Ok.bounds)
    (read_bounds c.args.ctx.now.setting c.args.ctx.now.location ms) =
    subst (λ r. CompilesTo boxed_bounds r (read_bounds c.args.ctx.now.setting c.args.ctx.now.location ms)) c.in-Ok.is
    c.bounds_beside.ensures in
    let refused = subst (λ r. CompilesTo (λ (s : Schema). s) r sub) c.in-Err-compile_at.is c.compile_at.ensures in
    compiles_as keyword_of (Some (Err c.in-Err-compile_at.fault)) _ (Some (map_ok (λ s. contains s b) sub))
    (contains_of_schema c.args.ctx.now ms d b made)
    (refused_whole (λ (s : Schema). s) keyword_of c.in-Err-compile_at.fault sub (map_ok (λ s. contains s b) sub) refused
    (λ r e. ap (map_ok (λ s. contains s b)) e))

pub contains::compile-returns-in-Err : goal.contains::compile-returns-in-Err
contains::compile-returns-in-Err g t c =
    let keyword_of =
    validator_keyword {F = g.row.F.Denot} {Node = g.row.F-Node.Denot} {Number = g.row.F-Node-Number.Denot}
    {Key = g.row.F-Node-PreparedKey.Denot} in
    let ms = members_view c.args.parent.now.entries in
    let d = view c.args.schema.now in
    let bounds = read_bounds c.args.ctx.now.setting c.args.ctx.now.location ms in
    let made : CompilesTo boxed_bounds (Err c.in-Err.fault) bounds =
    subst (λ r. CompilesTo boxed_bounds r bounds) c.in-Err.is c.bounds_beside.ensures in
    let sub = read d c.args.ctx.now.setting (keyword_location c.args.ctx.now.location keyword_name.Contains) in
    compiles_as keyword_of (Some (Err c.in-Err.fault)) _ _ (contains_read c.args.ctx.now ms d)
    (refused_whole boxed_bounds keyword_of c.in-Err.fault bounds _ made
    (λ r e. ap (λ b. join_ok (λ b s. contains s b) b sub) e))

-- ---- the calls go down

pub prefix_items::compile-compile_list-requires : goal.prefix_items::compile-compile_list-requires
prefix_items::compile-compile_list-requires g t c κs within =
    let found : as_array (view c.args.schema.now) ≡ Some (items_view c.in-Some.schemas.now.items) =
    search (rules, c.as_array.ensures, c.in-Some.is) in
    (omega (arith, depth_array _ _ found, c.decreases), search rules)

pub items::compile-compile_list-requires : goal.items::compile-compile_list-requires
items::compile-compile_list-requires g t c κs within =
    let found : as_array (view c.args.schema.now) ≡ Some (items_view c.in-Some.schemas.now.items) =
    search (rules, c.as_array.ensures, c.in-Some.is) in
    (omega (arith, depth_array _ _ found, c.decreases), search rules)

pub items::compile_schema-compile_at-requires : goal.items::compile_schema-compile_at-requires
items::compile_schema-compile_at-requires g t c κs within = (omega (arith, c.decreases), search rules)

pub additional_items::compile-compile_at-requires : goal.additional_items::compile-compile_at-requires
additional_items::compile-compile_at-requires g t c κs within = (omega (arith, c.decreases), search rules)

pub contains::compile-compile_at-requires : goal.contains::compile-compile_at-requires
contains::compile-compile_at-requires g t c κs within = (omega (arith, c.decreases), search rules)

-- ---- one keyword of an object

pub compiler::compile_keyword-compile-requires : goal.compiler::compile_keyword-compile-requires
compiler::compile_keyword-compile-requires g t c κs within = (omega (arith, c.decreases), search rules)

pub compiler::compile_keyword-returns-in-Items : goal.compiler::compile_keyword-returns-in-Items
compiler::compile_keyword-returns-in-Items g t c =
    keyword_same c.compile.result c.args.ctx.now (members_view c.args.parent.now.entries)
    (view c.args.schema.now) c.in-Items.is c.compile.ensures

pub compiler::compile_keyword-compile-requires-in-PrefixItems
    : goal.compiler::compile_keyword-compile-requires-in-PrefixItems
compiler::compile_keyword-compile-requires-in-PrefixItems g t c κs within = (omega (arith, c.decreases), search rules)

pub compiler::compile_keyword-returns-in-PrefixItems : goal.compiler::compile_keyword-returns-in-PrefixItems
compiler::compile_keyword-returns-in-PrefixItems g t c =
    keyword_same c.compile-in-PrefixItems.result c.args.ctx.now (members_view c.args.parent.now.entries)
    (view c.args.schema.now) c.in-PrefixItems.is c.compile-in-PrefixItems.ensures

pub compiler::compile_keyword-compile-requires-in-AdditionalItems
    : goal.compiler::compile_keyword-compile-requires-in-AdditionalItems
compiler::compile_keyword-compile-requires-in-AdditionalItems g t c κs within =
    (omega (arith, c.decreases), search rules)

pub compiler::compile_keyword-returns-in-AdditionalItems : goal.compiler::compile_keyword-returns-in-AdditionalItems
compiler::compile_keyword-returns-in-AdditionalItems g t c =
    keyword_same c.compile-in-AdditionalItems.result c.args.ctx.now (members_view c.args.parent.now.entries)
    (view c.args.schema.now) c.in-AdditionalItems.is c.compile-in-AdditionalItems.ensures

pub compiler::compile_keyword-compile-requires-in-Contains : goal.compiler::compile_keyword-compile-requires-in-Contains
compiler::compile_keyword-compile-requires-in-Contains g t c κs within = (omega (arith, c.decreases), search rules)

pub compiler::compile_keyword-returns-in-Contains : goal.compiler::compile_keyword-returns-in-Contains
compiler::compile_keyword-returns-in-Contains g t c =
    keyword_same c.compile-in-Contains.result c.args.ctx.now (members_view c.args.parent.now.entries)
    (view c.args.schema.now) c.in-Contains.is c.compile-in-Contains.ensures
