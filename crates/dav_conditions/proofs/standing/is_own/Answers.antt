use Rattle.dav_conditions.proofs.OwnTag.{own_matches}
use Rattle.dav_conditions.proofs.standing.is_own.Goals as goal

pub returns-in-Some-in_quotes : goal.returns-in-Some-in_quotes
returns-in-Some-in_quotes g c = λ own. rw c.in-Some.is
    (own_matches _ c.in-Some-in_quotes.text.now c.args.value.now (g.met.M.DavMetaData.tag_bytes c.in-Some.meta.now)
    (c.has_tag.ensures.0 own) c.in-Some-in_quotes.ensures)
