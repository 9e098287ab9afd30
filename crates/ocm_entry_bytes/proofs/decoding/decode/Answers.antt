use Rattle.std.proofs.Common.{arith, subst}
use Rattle.ocm_entry_bytes.specs.Reading.{Gives}
use Rattle.ocm_entry_bytes.proofs.Whole.{is_found, ask_of-spelling}
use Rattle.ocm_entry_bytes.proofs.decoding.decode.Goals as goal

pub returns-clause-found : goal.returns-clause-found
returns-clause-found c = is_found c.args.bytes.now c.ask_of.result (λ i. omega (arith, c.type_inv.bytes i)) c.ask_of.ensures

pub returns-clause-only : goal.returns-clause-only
returns-clause-only c = λ ask spells. subst (λ f. Gives (λ a. a) c.ask_of.result f) (ask_of-spelling c.args.bytes.now ask spells) c.ask_of.ensures
