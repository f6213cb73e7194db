-- What a request of the code asks for.
use Rattle.serde_json.specs.View.{view}
use Rattle.jskw_service.specs.Request as spec
use Rattle.jskw_service.specs.declared.request.Request.{Request}

abbrev pub request_view : Request → spec.Request
request_view r = record { schema = view r.schema.now; instance = view r.instance.now; setting = r.settings }
