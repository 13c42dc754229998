use Rattle.dav_local.proofs.Stepping.{no_dir, no_dir_found, search_listed}
use Rattle.dav_local.proofs.Counted.{searched_few, unlisted_few}
use Rattle.dav_local.proofs.walk.list_in.Goals as goal

pub returns-in-Err-NotFound-clause-done : goal.returns-in-Err-NotFound-clause-done
returns-in-Err-NotFound-clause-done g c = no_dir_found _ _ _ _ _ c.in-Err-NotFound.ensures.done c.in-Err-NotFound.ensures.one c.in-Err-NotFound.field-0-is

pub returns-in-Err-NotDir-clause-done : goal.returns-in-Err-NotDir-clause-done
returns-in-Err-NotDir-clause-done g c = no_dir _ _ _ _ _ c.in-Err-NotDir.ensures.done c.in-Err-NotDir.ensures.one c.in-Err-NotDir.field-0-is

pub returns-clause-done : goal.returns-clause-done
returns-clause-done g c = search_listed _ _ _ _ _ _ c.in-Ok.lister _ c.in-Ok.ensures.done c.in-Ok.ensures.one c.search-found.ensures.done c.end_list.ensures.ends

pub returns-in-Err-NotFound-clause-few : goal.returns-in-Err-NotFound-clause-few
returns-in-Err-NotFound-clause-few g c = unlisted_few _ _ _ _ c.in-Err-NotFound.ensures.done

pub returns-in-Err-NotDir-clause-few : goal.returns-in-Err-NotDir-clause-few
returns-in-Err-NotDir-clause-few g c = unlisted_few _ _ _ _ c.in-Err-NotDir.ensures.done

pub returns-in-Err-clause-few : goal.returns-in-Err-clause-few
returns-in-Err-clause-few g c = unlisted_few _ _ _ _ c.in-Err.ensures.done

pub returns-clause-few : goal.returns-clause-few
returns-clause-few g c = searched_few _ _ _ _ _ c.in-Ok.lister c.in-Ok.ensures.done c.search-found.ensures.few c.end_list.ensures.done
