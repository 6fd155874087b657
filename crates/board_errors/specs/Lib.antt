pub mod BoardReasons
