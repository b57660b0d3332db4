pub mod PaneRing
pub mod Panes
pub mod Ringed
