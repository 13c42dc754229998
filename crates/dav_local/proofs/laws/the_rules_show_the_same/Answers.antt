use Rattle.dav_local.proofs.Allowed.{looked_same, opened_same}
use Rattle.dav_local.proofs.laws.the_rules_show_the_same.Goals as goal

pub returns : goal.returns
returns c = record {
  looked = λ settings ways w end denies clear. looked_same settings ways w end denies c.args._path.now clear;
  opened = λ settings ways w end clear. opened_same settings ways w end c.args._path.now clear;
}
