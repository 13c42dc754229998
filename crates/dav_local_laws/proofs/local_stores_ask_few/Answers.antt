use Rattle.std.proofs.lemmas.Bool.{or_parts}
use Rattle.dav_model.specs.Calls.{is_judged}
use Rattle.dav_model.specs.Finding.{is_virtual, or_walk}
use Rattle.dav_local.specs.Ways.{rules_with}
use Rattle.dav_local_laws.proofs.LocalAsks.{asks_meant, asks_near, asks_sought, asks_unsought}
use Rattle.dav_local_laws.proofs.local_stores_ask_few.Goals as goal

pub returns-clause-meant : goal.returns-clause-meant
returns-clause-meant g c = λ q most meant untouched.
    let rules = rules_with q.settings c.args._fs.now.ways in
    let (plain, fair) = or_parts (is_virtual rules q.path) (is_judged rules (or_walk rules.alone q.path.names)) untouched in
    asks_meant _ _ _ (λ s. s.ways) (λ s. g.R.Remember.state s.memory) (λ s. s.moment) c.calls_are_local.ensures c.args._fs.now q most meant plain fair

pub returns-clause-unsought : goal.returns-clause-unsought
returns-clause-unsought g c = λ q meant. asks_unsought _ _ _ (λ s. s.ways) (λ s. g.R.Remember.state s.memory) (λ s. s.moment) c.calls_are_local.ensures c.args._fs.now q meant

pub returns-clause-near : goal.returns-clause-near
returns-clause-near g c = λ q most w held meant nothing told near.
    asks_near _ _ _ (λ s. s.ways) (λ s. g.R.Remember.state s.memory) (λ s. s.moment) c.calls_are_local.ensures c.args._fs.now q most w held meant nothing told
    (record { seen = record { at = near.seen.at; near = near.seen.near; fair = near.seen.fair; plain = near.seen.plain }; opened = near.opened })

pub returns-clause-sought : goal.returns-clause-sought
returns-clause-sought g c = λ q most w meant told both. asks_sought _ _ _ (λ s. s.ways) (λ s. g.R.Remember.state s.memory) (λ s. s.moment) c.calls_are_local.ensures c.args._fs.now q most w meant told both
