use Rattle.std.proofs.Common.{◌≡◌, ◌++◌, ◌∷◌, [], ◌+◌, ◌<◌, length, cond, Some, List, false, refl, ap, ◌∙◌, arith, rules}
use Rattle.std.proofs.lemmas.Grind.{common_steps}
use Rattle.ocm_rules.specs.Messages.{is_change}
use Rattle.ocm_rules.specs.declared.rows.Subject.{Subject}
use Rattle.ocm_outgoing.specs.declared.rows.Sent.{Sent}
use Rattle.ocm_outgoing.specs.Threads.{with_link, thread_of, same_key, first_or, rows_of}
use Rattle.ocm_outgoing.proofs.Pushed.{length-rows, pushed-outbox, pushed, rows_of-pushed}
use Rattle.ocm_outgoing.proofs.outbox.Outbox.push.Goals as goal

fewer : (rows : List Sent) → length (rows_of rows) < 1048576 → length rows < 1048576
fewer rows h = omega (arith, length-rows rows, h)

pub invariant_of-self : goal.invariant_of-self
invariant_of-self c =
    let row : Sent = record { numbered = record { number = c.len.result + 1; to = c.args.to; letter = c.args.letter }; subject = c.args.subject; settled = false; next = 0 } in
    let older : c.copied-older.result ≡ thread_of c.self.inside.threads c.args.subject = search rules in
    let items : c.push.new.self.items ≡ pushed (thread_of c.self.inside.threads c.args.subject) (c.len.result + 1) c.self.inside.rows.items row = rw c.unwrap.ensures at c.push.ensures.items ∙ ap (λ front. front ++ row ∷ []) (c.link_last-first.ensures.rows ∙ ap (λ o. with_link o (c.len.result + 1) c.self.inside.rows.items) older) in
    let first : c.link_last-first.result ≡ first_or (c.len.result + 1) (thread_of c.self.inside.threads c.args.subject) = c.link_last-first.ensures.first ∙ ap (first_or (c.len.result + 1)) older in
    let inserted = rw c.unwrap-before.ensures at c.insert-threaded.ensures.updates in
    let updates : (s : Subject) → thread_of c.insert-threaded.new.self s ≡ cond (same_key c.args.subject s) (Some (record { first = first_or (c.len.result + 1) (thread_of c.self.inside.threads c.args.subject); last = c.len.result + 1 })) (thread_of c.self.inside.threads s) = rw (← first) inserted.0 in
    let few : length c.self.inside.rows.items < 1048576 = fewer c.self.inside.rows.items (rw (← c.self.view_is) at c.requires.few) in
    let number : c.len.result + 1 ≡ length c.self.inside.rows.items + 1 = grind (arith, common_steps) in
    let adds : c.from.result ≡ cond (is_change c.args.letter) 1 0 = search rules in
    let begun = rw older at c.begin.ensures.times in
    rw items (pushed-outbox c.self.inside.rows.items c.self.inside.threads c.insert-threaded.new.self c.self.inside.fronts.items c.begin.new.fronts.items c.self.inside.changes c.from.result (c.len.result + 1) row c.self.invariant few number refl refl refl adds updates begun c.begin.ensures.rising)

pub returns-clause-sent : goal.returns-clause-sent
returns-clause-sent c =
    let row : Sent = record { numbered = record { number = c.len.result + 1; to = c.args.to; letter = c.args.letter }; subject = c.args.subject; settled = false; next = 0 } in
    let items : c.push.new.self.items ≡ pushed c.copied-older.result (c.len.result + 1) c.self.inside.rows.items row = rw c.unwrap.ensures at c.push.ensures.items ∙ ap (λ front. front ++ row ∷ []) c.link_last-first.ensures.rows in
    rw (items, ← c.self.view_is) (rows_of-pushed c.copied-older.result (c.len.result + 1) c.self.inside.rows.items row)
