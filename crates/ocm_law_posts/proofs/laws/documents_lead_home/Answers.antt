use Rattle.ocm_law_posts.proofs.Documents.{document-home}
use Rattle.ocm_law_posts.proofs.Pages.{document-found}
use Rattle.ocm_law_posts.proofs.laws.documents_lead_home.Goals as goal

pub returns-clause-text : goal.returns-clause-text
returns-clause-text c = document-home

pub returns-clause-exchange : goal.returns-clause-exchange
returns-clause-exchange c = document-found
