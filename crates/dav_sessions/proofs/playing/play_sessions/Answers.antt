use Rattle.std.proofs.Common.{subst}
use Rattle.std.specs.Prelude.{slice_index_or}
use Rattle.dav_sessions.specs.Sessions.{Plays, own_of, rules_of}
use Rattle.dav_sessions.proofs.playing.play_sessions.Goals as goal

pub returns : goal.returns
returns g c i d lt =
    let e = (c.for_each_mut.ensures i d lt).1 in
    let page = g.B.Book.names c.args.cache.now.folder in
    let rules = rules_of c.args.settings.now c.args.fold c.args.macos in
    subst (λ s. Plays page rules (own_of g.D.Disk.state s) (slice_index_or c.for_each_mut.new.s i d).outcome (own_of g.D.Disk.state (slice_index_or c.for_each_mut.new.s i d))) e.argument_is
    (subst (λ t. Plays page rules (own_of g.D.Disk.state e.argument.now) t.outcome (own_of g.D.Disk.state t)) e.left e.call)
