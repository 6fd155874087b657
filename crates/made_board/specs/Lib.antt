pub mod MadeBoard
