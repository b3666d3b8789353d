use Rattle.qg_file_edits.proofs.Room.{leaves-room}
use Rattle.qg_file_edits.proofs.laws.commands_leave_room.Goals as goal

pub returns : goal.returns
returns c old new history files pieces besides wide leaves enough =
    leaves-room old new history files pieces besides wide leaves enough
