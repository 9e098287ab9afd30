use Rattle.std.proofs.Common.{rules, tests, ◌≡◌, [], length, inl, sym, ap, ◌++◌}
use Rattle.std.proofs.lemmas.List.{nil_from_length}
use Rattle.ocm_http.proofs.UnderWay.{came_same}
use Rattle.ocm_http.proofs.windows.Window.ready.Goals as goal

pub returns-clause-taken : goal.returns-clause-taken
returns-clause-taken g c =
    let none : length c.args.self.now ≡ 0 = search (rules, tests) in
    let nothing : c.args.self.now ≡ [] = nil_from_length c.args.self.now none in
    (c.fill.new.self, c.in_ok-fill.ensures.ok, ap (λ l. l ++ c.fill.new.self) (sym nothing), c.fill.ensures.within, inl nothing)
