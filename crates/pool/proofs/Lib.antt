pub mod InPool
