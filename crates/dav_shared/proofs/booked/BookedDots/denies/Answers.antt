use Rattle.std.proofs.Common.{◌≡◌, ◌∙◌, rules, sym, subst}
use Rattle.dav_shared.specs.Books.{IsUntold}
use Rattle.dav_shared.proofs.Keeping.{denies_rightly}
use Rattle.dav_shared.proofs.booked.BookedDots.denies.Goals as goal

pub returns-clause-untold : goal.returns-clause-untold
returns-clause-untold g c is x named =
    let same : c.args.self.now.folder ≡ c.args.folder = search rules in
    subst (λ n. IsUntold (g.B.Book.names n) c.args.dir.now.dir c.args.time x) same
    (denies_rightly (g.B.Book.names c.args.self.now.folder) c.args.self.now.dots.entries c.args.dir.now c.args.name.now c.args.number c.args.time c.args.self.now.keeps c.requires
    (sym c.has_time.ensures ∙ search rules) (sym c.conclude.ensures ∙ is) x named)
