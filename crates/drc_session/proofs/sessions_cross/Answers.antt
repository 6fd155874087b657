use denote.Param.Send.{sendable}
use Rattle.drc_session.proofs.SessionsCross.{session_send, session_sync}
use Rattle.drc_session.proofs.sessions_cross.Goals as goal

pub crosses_threads-requires-send-T : goal.crosses_threads-requires-send-T
crosses_threads-requires-send-T c κs = search (session_send, sendable) depth 6

pub crosses_threads-requires-sync-T : goal.crosses_threads-requires-sync-T
crosses_threads-requires-sync-T c κs = search (session_sync, sendable) depth 6
