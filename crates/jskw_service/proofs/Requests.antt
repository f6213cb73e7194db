-- Vocabularies and names of a request, item by item.
use Rattle.std.proofs.Common.{◌||◌}
use Rattle.jskw_report.specs.declared.settings.VocabularySet.{VocabularySet}

abbrev pub joined : VocabularySet → VocabularySet → VocabularySet
joined a b =
    record {
      core =
          a.core || b.core;
      applicator = a.applicator || b.applicator;
      validation = a.validation || b.validation;
    }
