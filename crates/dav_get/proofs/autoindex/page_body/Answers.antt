use Rattle.dav_get.proofs.PageMembers.{all_plain_names}
use Rattle.dav_get.proofs.autoindex.page_body.Goals as goal

pub index_page-requires : goal.index_page-requires
index_page-requires g c = all_plain_names c.args.members.items c.requires.plain
