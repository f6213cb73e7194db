-- The vocabulary of this crate's clauses and proofs: definitions of the crates below and of this one, by their names.

-- std
pub use Rattle.std.specs.Prelude.{[], true, Some, Ok, Err, Result, IfOk, IfSome, IsTrue, count_by, drop, is_some}
pub use Rattle.std.specs.Prelude.{length, min, option_map, sum_by, take}
pub use Rattle.std.specs.List.{list_all}
pub use Rattle.std.specs.Option.{option_map_or}
-- values of schemas, and their members
pub use Rattle.serde_json.specs.Data.{Data, Items, Members, array, boolean, depth, items_depth, member, members_depth}
pub use Rattle.serde_json.specs.Data.{no_members, object}
pub use Rattle.serde_json.specs.Events.{items_len}
pub use Rattle.serde_json.specs.Find.{as_array, as_bool, get_member}
pub use Rattle.serde_json.specs.View.{items_view, members_view, view}
-- instances, locations and types
pub use Rattle.jskw_value.specs.Tree.{Tree, is_array, is_lawful, items}
pub use Rattle.jskw_value.specs.Pointer.{Pointer, item_location, member_location}
pub use Rattle.jskw_value.specs.declared.types.JsonType.TheVariants.{Array, Boolean, Object}
pub use Rattle.jskw_report.specs.Paths.{path_of}
-- what a schema says: its keywords, and how they are read with settings
pub use Rattle.jskw_report.specs.Keyword.{Bounds, Keyword, Keywords, Schema, Schemas, additional_items}
pub use Rattle.jskw_report.specs.Keyword.{keywords_delegate, append_keywords, assertion, at_most}
pub use Rattle.jskw_report.specs.Keyword.{each_of, rest_of}
pub use Rattle.jskw_report.specs.Keyword.{contains, schemas_delegate, false_schema, hands_on_required, is_fused_schema}
pub use Rattle.jskw_report.specs.Keyword.{items_from, items_list, keyword, keyword_delegates, keywords_in, no_keywords}
pub use Rattle.jskw_report.specs.Keyword.{no_schemas, prefix_items, schema, schema_location, schema_object}
pub use Rattle.jskw_report.specs.KeywordValue.{Refusal, join_ok, map_ok, of_type, of_types, wrong}
pub use Rattle.jskw_report.specs.Read.{Asserts, ValueReadings, Reading, additional_keyword, asserts, before}
pub use Rattle.jskw_report.specs.Read.{bound_beside, bound_value, bounds_between, items_start}
pub use Rattle.jskw_report.specs.Read.{keyword_location, marks_of, readings, readings_named, read, read_bounds}
pub use Rattle.jskw_report.specs.Read.{read_each, read_keywords, object_schema}
unfoldable pub use Rattle.jskw_report.specs.Read.{asserted, read_keyword}
pub use Rattle.jskw_report.specs.Setting.{CompilePoint, Setting, keywords, name_of, is_active}
pub use Rattle.jskw_report.specs.Sibling.{is_bare, is_items_schema}
unfoldable pub use Rattle.jskw_report.specs.Sibling.{is_fused, is_handed_on}
pub use Rattle.jskw_report.specs.Compile.{CompilesKeyword, CompilesTo, keyword_reading}
pub use Rattle.jskw_report.specs.declared.keyword.KeywordName.{KeywordName}
-- what it says of an instance: whether it holds, its errors, its evaluation tree, and how many schemas that takes
pub use Rattle.jskw_report.specs.Holds.{all_hold, each_holds, holds, keyword_holds}
pub use Rattle.jskw_report.specs.Fail.{Failure, all_fail, each_fails, each_item, fail, failing_bound, is_empty}
pub use Rattle.jskw_report.specs.Fail.{keyword_fail, passes}
pub use Rattle.jskw_report.specs.Evaluation.{Evaluation, evaluate_each, evaluate_matching, evaluate_pairs, indices}
pub use Rattle.jskw_report.specs.Evaluation.{matching_indices, node_at, of_children, prefix_annotation, tree, unit}
pub use Rattle.jskw_report.specs.Evaluation.{units}
unfoldable pub use Rattle.jskw_report.specs.Evaluation.{of_errors}
pub use Rattle.jskw_report.specs.Applications.{all_applications, all_height, all_needed, all_pairs, applications}
pub use Rattle.jskw_report.specs.Applications.{each_height, each_needed, each_pairs, height, keyword_height}
pub use Rattle.jskw_report.specs.Applications.{keyword_needed, keyword_pairs, needed, pairs, sum_to_failure}
-- what the validators of a keyword stand for, and what their results say
pub use Rattle.jskw_report.specs.Meaning.{is_assertion, meaning_applications, meaning_fail, meaning_holds}
pub use Rattle.jskw_report.specs.Meaning.{meaning_needed, meaning_pairs, meaning_unit, one_keyword}
pub use Rattle.jskw_report.specs.Observe.{Appends, CountsUpTo, IsFirst, Reports, keeps_list, limited}
pub use Rattle.jskw_report.specs.Errors.{failures_of}
pub use Rattle.jskw_report.specs.EvaluationParts.{annotation_of}
pub use Rattle.jskw_report.specs.EvaluationView.{result_of}
pub use Rattle.jskw_number.specs.Outline.{AcceptsOutline, in_outline}
pub use Rattle.jskw_number.specs.QuickSet.{Accepts, is_in}
pub use Rattle.jskw_leaf.specs.Items.{absorbed_keywords, bare_keyword, optional}
pub use Rattle.jskw_leaf.specs.Meaning.{leaf_assertion, leaf_keyword}
pub use Rattle.jskw_leaf.specs.Names.{is_leaf}
-- the same of this crate
pub use Rattle.jskw_array.specs.Meaning.{bounds_of, boxed_bounds, each_keyword, matching_keyword}
pub use Rattle.jskw_array.specs.Meaning.{rest_keyword, schemas_of, validator_keyword}
pub use Rattle.jskw_array.specs.Limits.{deciding_count, failing_locations, locations_of, matching_result}
pub use Rattle.jskw_array.specs.Fused.{IsBeginning, fused_keywords, shape_keywords, shape_meaning}
pub use Rattle.jskw_array.specs.Parts.{ShapeBegins, after, keywords_of, keywords_read, own_keyword, part_delegates}
pub use Rattle.jskw_array.specs.Parts.{part_meaning, shape_in}
pub use Rattle.jskw_array.specs.Node.{HasParts, Remain, Knows, RemainingParts, boolean_schema, marked, schema_of}
pub use Rattle.jskw_array.specs.Accepted.{AddsKeyword, AllValid, AreSettled, ArraysAreValid, IsKnown, SetsAccept}
pub use Rattle.jskw_array.specs.Accepted.{arrays_cost, in_arrays, in_rest, in_sets, in_typed, items_cost, rest_cost}
pub use Rattle.jskw_array.specs.Passed.{CountsBetween, PassesOver, items_between}
pub use Rattle.jskw_array.specs.Siblings.{active_member, array_schema_count}
pub use Rattle.jskw_array.specs.Agreement.{Agree, RejectsNonArrays}
pub use Rattle.jskw_array.specs.declared.each.Each.{Each}
pub use Rattle.jskw_array.specs.declared.rest.Rest.{Rest}
pub use Rattle.jskw_array.specs.declared.items.array_shape.ArrayShapeValidator.{ArrayShapeValidator}
pub use Rattle.jskw_array.specs.declared.part.Part.{Part}
pub use Rattle.jskw_array.specs.declared.part.Part.TheVariants.{Keyword as OfKeyword, Shape}
