pub mod CountingLaws
pub mod PieceLaws
