pub mod CutDraws
