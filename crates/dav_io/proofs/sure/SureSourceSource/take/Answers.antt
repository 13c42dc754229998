use Rattle.std.proofs.Common.{rules, drop, take, ap, sym, ◌∙◌}
use Rattle.std.proofs.lemmas.List.{nil_from_length}
use Rattle.dav_io.proofs.Taken.{front}
use Rattle.dav_io.proofs.sure.SureSourceSource.take.Goals as goal

pub returns : goal.returns
returns c = record {
  asked = search rules;
  counts = search rules;
  failed = search rules;
  within = search rules;
  told =
      let rest = c.split_at.ensures.back ∙ ap (drop c.args.self.now.at) c.as_slice.ensures in (
        front _ _ _ _ (c.copy_front-count.ensures.copied ∙ ap (take c.copy_front-count.result) rest),
        λ e. sym rest ∙ nil_from_length _ (c.copy_front-count.ensures.end e c.requires),
      );
}
