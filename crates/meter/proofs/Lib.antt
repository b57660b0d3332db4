mod Batches
mod Books
mod KeyKinds
mod Promises
mod Replies
mod Reports
