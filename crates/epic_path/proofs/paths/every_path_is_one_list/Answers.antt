use Rattle.epic_path.proofs.EveryPath.{every_path_is_one}
use Rattle.epic_path.proofs.paths.every_path_is_one_list.Goals as goal

pub returns : goal.returns
returns c = every_path_is_one
