-- The text is a document where it is UTF-8 and parses.
use Rattle.std.proofs.lemmas.Bool.{both_ways}
use Rattle.isort_settings.proofs.Documents.{document_of-ok, document_of-bad}
use Rattle.isort_settings.proofs.pyproject.document.Goals as goal

pub returns-in-Ok-clause-ok : goal.returns-in-Ok-clause-ok
returns-in-Ok-clause-ok c = document_of-ok _ _ c.in-Ok.ensures.ok.0 c.in-Ok.ensures.ok.1

pub returns-in-Err-2-clause-refused : goal.returns-in-Err-2-clause-refused
returns-in-Err-2-clause-refused c =
    λ _. document_of-bad _ (c.in-Err.ensures.refused (λ m. both_ways c.is_memory.result c.if-is_memory.false (c.is_memory.ensures.1 m)))
