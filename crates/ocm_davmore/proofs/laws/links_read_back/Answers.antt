use Rattle.ocm_davmore.proofs.DestinationForms.{link_reads_back, query_reads_back, two_slashes}
use Rattle.ocm_davmore.proofs.laws.links_read_back.Goals as goal

pub returns-clause-link : goal.returns-clause-link
returns-clause-link c = link_reads_back

pub returns-clause-query : goal.returns-clause-query
returns-clause-query c = query_reads_back

pub returns-clause-two_slashes : goal.returns-clause-two_slashes
returns-clause-two_slashes c = two_slashes
