use Rattle.std.proofs.Common.{refl}
use Rattle.dav_model.specs.Due.{query}
use Rattle.dav_handler.proofs.Answering.{stays_read, stays_write}
use Rattle.dav_handler.proofs.found.local_stores_serve.Goals as goal

pub returns : goal.returns
returns g c = record {
  void = refl;
  seen = refl;
  handle = refl;
  held = λ t b held. held;
  tells = λ t. g.met.D.Disk.tells_live t.disk;
  reads_stay = λ t led. stays_read c.args.settings.now c.args.store.now.ways t.ways (g.R.Remember.state c.args.store.now.memory) (g.R.Remember.state t.memory)
      (g.D.Disk.state c.args.store.now.disk) (g.D.Disk.state t.disk) (c.reads_learn_what_stands.ensures t led).0 (c.reads_learn_what_stands.ensures t led).1;
  right = λ fields method path t given reply. c.reads_are_right.ensures (query c.args.settings.now fields method path) t given reply;
  meant = λ fields method path most. c.local_stores_ask_few.ensures.meant (query c.args.settings.now fields method path) most;
  unsought = λ fields method path. c.local_stores_ask_few.ensures.unsought (query c.args.settings.now fields method path);
  near = λ fields method path most w held. c.local_stores_ask_few.ensures.near (query c.args.settings.now fields method path) most w held;
  sought = λ fields method path most w. c.local_stores_ask_few.ensures.sought (query c.args.settings.now fields method path) most w;
  usual = c.local_stores_refuse_few.ensures;
  follows = c.local_stores_follow_rules.ensures;
  leads = λ method prefix path fields body r t. c.writes_lead_on.ensures tt c.args.store.now t method prefix path fields body r;
  writes_stay = λ t led. stays_write c.args.settings.now c.args.store.now.ways t.ways (g.R.Remember.state c.args.store.now.memory) (g.R.Remember.state t.memory)
      (g.D.Disk.state c.args.store.now.disk) (g.D.Disk.state t.disk) (c.calls_teach_nothing.ensures t led).0 (c.calls_teach_nothing.ensures t led).1;
}
