use Rattle.dav_local_laws.proofs.LocalShows.{local_shows_members, local_shows_on, of_rules}
use Rattle.dav_local_laws.proofs.local_stores_show_the_tree.Goals as goal

pub returns : goal.returns
returns g c = record {
  opened = λ w path told once free. local_shows_on _ _ _ (λ s. s.ways) (λ s. g.R.Remember.state s.memory) (λ s. s.moment) c.calls_are_local.ensures c.args._fs.now tt path w once told free;
  listed = λ w path told once links. local_shows_members _ _ _ (λ s. s.ways) (λ s. g.R.Remember.state s.memory) (λ s. s.moment) c.calls_are_local.ensures c.args._fs.now tt path w once told links;
  ruled = λ w path free. of_rules c.args._fs.now.ways w path free;
}
