use Rattle.qg_items.proofs.FileBodies.{inode_trips, extent_data_trips}
use Rattle.qg_items.proofs.RootBody.{root_trips}
use Rattle.qg_items.proofs.ExtentBodies.{extent_trips, data_ref_trips, shared_data_ref_trips}
use Rattle.qg_items.proofs.QuotaBodies.{status_trips, info_trips, limit_trips}
use Rattle.qg_items.proofs.laws.round_trips.Goals as goal

pub returns-clause-inode : goal.returns-clause-inode
returns-clause-inode c = inode_trips

pub returns-clause-extent_data : goal.returns-clause-extent_data
returns-clause-extent_data c = extent_data_trips

pub returns-clause-root : goal.returns-clause-root
returns-clause-root c = root_trips

pub returns-clause-extent : goal.returns-clause-extent
returns-clause-extent c = extent_trips

pub returns-clause-data_ref : goal.returns-clause-data_ref
returns-clause-data_ref c = data_ref_trips

pub returns-clause-shared_data_ref : goal.returns-clause-shared_data_ref
returns-clause-shared_data_ref c = shared_data_ref_trips

pub returns-clause-status : goal.returns-clause-status
returns-clause-status c = status_trips

pub returns-clause-info : goal.returns-clause-info
returns-clause-info c = info_trips

pub returns-clause-limit : goal.returns-clause-limit
returns-clause-limit c = limit_trips
