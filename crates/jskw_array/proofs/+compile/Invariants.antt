use Rattle.std.proofs.Common.{◌≡◌, ◌+◌, ◌*◌, drop}
use Rattle.jskw_array.specs.Words.{ShapeBegins, after, depth, items_depth, items_view, keywords_of, members_depth}
use Rattle.jskw_array.specs.Words.{shape_in, members_view, readings_named, read_each, read_keywords, schemas_of, view}
use Rattle.jskw_array.proofs.CompiledSchemas.{after as after_schemas}
use Rattle.jskw_array.proofs.+compile.Given as goal

abbrev pub decreases-compiler::compile_subschema : goal.decreases-compiler::compile_subschema
decreases-compiler::compile_subschema g l = 10 * depth (view l.schema.now)

abbrev pub decreases-compiler::compile_at : goal.decreases-compiler::compile_at
decreases-compiler::compile_at g l = 10 * depth (view l.schema.now) + 1

abbrev pub decreases-compiler::compile_each : goal.decreases-compiler::compile_each
decreases-compiler::compile_each g l = 10 * items_depth (items_view l.schemas.now) + 1

abbrev pub decreases-compiler::compile_list : goal.decreases-compiler::compile_list
decreases-compiler::compile_list g l = 10 * items_depth (items_view l.schemas.now.items) + 2

abbrev pub decreases-items::compile : goal.decreases-items::compile
decreases-items::compile g l = 10 * depth (view l.schema.now) + 3

abbrev pub decreases-items::compile_schema : goal.decreases-items::compile_schema
decreases-items::compile_schema g l = 10 * depth (view l.schema.now) + 2

abbrev pub decreases-prefix_items::compile : goal.decreases-prefix_items::compile
decreases-prefix_items::compile g l = 10 * depth (view l.schema.now) + 2

abbrev pub decreases-additional_items::compile : goal.decreases-additional_items::compile
decreases-additional_items::compile g l = 10 * depth (view l.schema.now) + 2

abbrev pub decreases-contains::compile : goal.decreases-contains::compile
decreases-contains::compile g l = 10 * depth (view l.schema.now) + 2

abbrev pub decreases-compiler::compile_keyword : goal.decreases-compiler::compile_keyword
decreases-compiler::compile_keyword g l = 10 * depth (view l.schema.now) + 4

abbrev pub decreases-items::array_shape::ArrayShapeValidator::compile
    : goal.decreases-items::array_shape::ArrayShapeValidator::compile
decreases-items::array_shape::ArrayShapeValidator::compile g l = 10 * depth (view l.items.now) + 3

abbrev pub decreases-compiler::push_shape : goal.decreases-compiler::push_shape
decreases-compiler::push_shape g l = 10 * members_depth (members_view l.parent.now.entries) + 4

abbrev pub decreases-compiler::push_keywords : goal.decreases-compiler::push_keywords
decreases-compiler::push_keywords g l = 10 * members_depth (members_view l.parent.now.entries) + 5

abbrev pub decreases-compiler::push_parts : goal.decreases-compiler::push_parts
decreases-compiler::push_parts g l = 10 * members_depth (members_view l.parent.now.entries) + 6

abbrev pub decreases-compiler::compile_object : goal.decreases-compiler::compile_object
decreases-compiler::compile_object g l = 10 * members_depth (members_view l.parent.now.entries) + 7

-- those that are appended, with those that are still to be read
abbrev pub invariant-compiler::push_keywords-loop-keyword : goal.invariant-compiler::push_keywords-loop-keyword
invariant-compiler::push_keywords-loop-keyword g l =
    let ms = members_view l.parent.entries in
    record {
      whole : after (keywords_of l.parts.items) (read_keywords (drop l.keyword-index l.keywords) l.ctx.setting
          l.ctx.location ms (λ name. readings_named name ms))
          ≡ after (keywords_of l.initial.parts.items)
          (read_keywords l.keywords l.ctx.setting l.ctx.location ms (λ name. readings_named name ms));
      fused : shape_in l.parts.items ≡ shape_in l.initial.parts.items;
      begins : ShapeBegins l.parts.items;
    }

abbrev pub invariant-compiler::compile_each-loop-index : goal.invariant-compiler::compile_each-loop-index
invariant-compiler::compile_each-loop-index g l =
    after_schemas (schemas_of l.nodes.items)
    (read_each (items_view (drop l.index l.schemas)) l.ctx.setting l.ctx.location l.index)
    ≡ read_each (items_view l.schemas) l.ctx.setting l.ctx.location 0
